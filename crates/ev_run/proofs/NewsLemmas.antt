-- A worker's settles at rest, over entries of others and over its own.
use Rattle.std.proofs.Common.{◌≡◌, ℕ, ◌+◌, ◌-◌, ◌<◌, ◌==◌, ◌&&◌, Bool, true, false, not, if◌then◌else◌, List, [], ◌∷◌, ◌++◌, filter, length, refl, ap, sym, ◌∙◌, subst, subst₂, arith}
use Rattle.std.specs.Cmp.{first_so, second_so}
use Rattle.std.specs.List.{AllByRecursion as ByRecursion, list_any}
use Rattle.std.proofs.lemmas.Bool.{both_ways}
use Rattle.ev_types.specs.declared.events.Actor.{Actor}
use Rattle.ev_types.specs.declared.events.Actor.TheVariants.{Stream, Health, Timer, Main, Worker}
use Rattle.ev_types.specs.declared.events.Entry.{Entry}
use Rattle.ev_types.specs.declared.journals.Format.{Format}
use Rattle.ev_types.specs.declared.journals.Format.TheVariants.{Two}
use Rattle.ev_model.specs.declared.pictures.Picture.{Picture}
use Rattle.ev_model.specs.World.{World, OpenMember, last_version, opening}
use Rattle.ev_model.specs.Dead.{picture_held, version_held}
use Rattle.ev_model.specs.Connections.{is_member}
use Rattle.ev_model.specs.Step.{step}
use Rattle.ev_model.specs.Runs.{is_batched, world_after}
use Rattle.ev_model.specs.Operations.{actor_decides, actor_same, is_held_by, is_settle, operation_of, rests_behind}
use Rattle.ev_model_laws.specs.Kept.{HoldsPublished}
use Rattle.ev_model_laws.proofs.BatchLemmas.{settle_not_batched}
use Rattle.ev_model_laws.proofs.HeldLemmas.{opens_held, step-held}
use Rattle.ev_worker.specs.Batches.{entries_of, entry_of}
use Rattle.ev_worker.specs.Workers.{HasWorker, IsWorkerIn, SameOpen, WorkerParts}
use Rattle.ev_worker.specs.declared.lines.BatchLine.{BatchLine}
use Rattle.ev_actors.specs.Journals.{JournalParts, WorksIn, entries_made, settle_made, with_entries, world_now}
use Rattle.ev_actors.specs.Resting.{IsBehind, SettlesForNews, is_settle_by, rests_after}
use Rattle.ev_actors.proofs.SettleLemmas.{published_now, world_with}
use Rattle.ev_actors.proofs.WorldLemmas.{step_leaves}
use Rattle.ev_commits.specs.Commits.{AreElsewhere, GrowsByOthers, seat_of}
use Rattle.ev_commits.specs.Seen.{HasCommitted, LearnsAtRest, version_shown}
use Rattle.ev_commits.proofs.TurnLemmas.{AreBatched, lines_batched, works_on}
use Rattle.ev_run.specs.Acting.{HasNews}
use Rattle.ev_run.proofs.FitLemmas.{not_same}

-- whether the worker rests after these entries
abbrev pub rests_at : Format → ℕ → Bool → World → List Entry → Bool
rests_at format worker rests world [] = rests
rests_at format worker rests world (entry ∷ entries) =
    let after = (step format world entry.actor entry.event).0 in
    rests_at format worker (rests_after worker rests after entry) after entries

-- news by entries and by more after them
news_append : (format : Format) (worker : ℕ) (rests : Bool) (world : World) (entries more : List Entry) → SettlesForNews format worker rests world entries
    → SettlesForNews format worker (rests_at format worker rests world entries) (world_after format world entries) more
    → SettlesForNews format worker rests world (entries ++ more)
news_append format worker rests world [] more news rest = rest
news_append format worker rests world (entry ∷ entries) more news rest =
    let after : World = (step format world entry.actor entry.event).0 in
    (news.0, news_append format worker (rests_after worker rests after entry) after entries more news.1 rest)

-- entries of others are no settles of the worker
news_of_others : (format : Format) (worker : ℕ) (rests : Bool) (world : World) (entries : List Entry) → AreElsewhere (seat_of (Worker worker)) entries
    → SettlesForNews format worker rests world entries
news_of_others format worker rests world [] others = tt
news_of_others format worker rests world (entry ∷ entries) others =
    let after : World = (step format world entry.actor entry.event).0 in
    let no : actor_same entry.actor (Worker worker) ≡ false = not_same entry.actor (Worker worker) (λ same. others.0 (ap seat_of same)) in (
      λ h. absurd (both_ways (actor_same entry.actor (Worker worker)) no
          (second_so (is_settle entry.event) (actor_same entry.actor (Worker worker)) (second_so rests (is_settle_by worker entry) h))),
      news_of_others format worker (rests_after worker rests after entry) after entries others.1,
    )

-- so they leave what is said of its settles
pub news_stays : (actor : Actor) (before after : JournalParts) → GrowsByOthers (seat_of actor) before after → HasNews actor before → HasNews actor after
news_stays Stream before after grows news = tt
news_stays Health before after grows news = tt
news_stays Timer before after grows news = tt
news_stays Main before after grows news = tt
news_stays (Worker worker) before after grows news =
    subst (HasNews (Worker worker)) (sym grows.grown)
    (news_append before.format worker true (opening before.workers before.node) before.journal grows.more news
    (news_of_others before.format worker (rests_at before.format worker true (opening before.workers before.node) before.journal) (world_now before) grows.more grows.others))

none_head : (number connection : ℕ) (m : OpenMember) (ms : List OpenMember) (b : Bool) → (m.worker == number) ≡ b
    → list_any (is_held_by (Worker number)) (m ∷ ms) ≡ false
    → (list_any (is_held_by (Worker number)) ms ≡ false → [] ≡ filter (is_member number connection) ms)
    → [] ≡ filter (is_member number connection) (m ∷ ms)
none_head number connection m ms true is none rest = absurd (let never : true ≡ false = simp is at none in cc)
none_head number connection m ms false is none rest = simp is (rest (simp is at none))

-- where no connection is the worker's, none of its number is open
none_of : (number : ℕ) (opened : List OpenMember) → list_any (is_held_by (Worker number)) opened ≡ false → SameOpen number [] opened
none_of number [] none connection = refl
none_of number (m ∷ ms) none connection =
    none_head number connection m ms (m.worker == number) refl none (λ others. none_of number ms others connection)

not_so : (b : Bool) → not b ≡ true → b ≡ false
not_so true h = absurd (cc)
not_so false h = refl

-- a worker that rests after an entry has nothing open there
rest_opens : (format : Format) (number : ℕ) (rests : Bool) (world : World) (entry : Entry) → HoldsPublished world
    → (rests ≡ true → SameOpen number [] world.opened) → (b : Bool) → actor_same entry.actor (Worker number) ≡ b
    → (if b then rests_behind (step format world entry.actor entry.event).0 (operation_of entry) else rests) ≡ true
    → SameOpen number [] (step format world entry.actor entry.event).0.opened
rest_opens format number rests world entry published here true same resting =
    let after : World = (step format world entry.actor entry.event).0 in
    none_of number after.opened
    (not_so (list_any (is_held_by (Worker number)) after.opened)
    (subst (λ (a : Actor). not (list_any (is_held_by a) after.opened) ≡ true) ((actor_decides entry.actor (Worker number)).0 same)
    (second_so (is_settle entry.event) (not (list_any (is_held_by entry.actor) after.opened)) resting)))
rest_opens format number rests world entry published here false apart resting =
    (step_leaves number (picture_held world number) [] format world entry.actor entry.event published
    (λ worker is same. both_ways (actor_same entry.actor (Worker number)) apart ((actor_decides entry.actor (Worker number)).1 (is ∙ ap Worker same)))
    (record { holds = refl; has = here resting })).has

-- and after entries
none_open : (format : Format) (number : ℕ) (rests : Bool) (world : World) (entries : List Entry) → HoldsPublished world
    → (rests ≡ true → SameOpen number [] world.opened) → rests_at format number rests world entries ≡ true
    → SameOpen number [] (world_after format world entries).opened
none_open format number rests world [] published here is = here is
none_open format number rests world (entry ∷ entries) published here is =
    let after : World = (step format world entry.actor entry.event).0 in
    none_open format number (rests_after number rests after entry) after entries (step-held format world entry.actor entry.event published)
    (rest_opens format number rests world entry published here (actor_same entry.actor (Worker number)) refl) is

no_settle : (line : BatchLine) → is_batched line.event ≡ true → is_settle line.event ≡ true → ⊥
no_settle line batched settle = both_ways (is_batched line.event) (settle_not_batched line.event settle) batched

-- a batch has no settle, and its worker doesn't rest after it
news_batch : (format : Format) (number : ℕ) (picture : Picture) (lines : List BatchLine) (last : Entry) (rests : Bool) (world : World) → AreBatched lines
    → (lines ≡ [] → rests ≡ true → IsBehind number world)
    → SettlesForNews format number rests world (entries_of number picture lines ++ last ∷ [])
news_batch format number picture [] last rests world batched behind = (λ h. behind refl (first_so rests (is_settle_by number last) h), tt)
news_batch format number picture (line ∷ lines) last rests world batched behind =
    let after : World = (step format world (Worker number) line.event).0 in (
      λ h. absurd (no_settle line batched.0
          (first_so (is_settle line.event) (actor_same (Worker number) (Worker number))
          (second_so rests (is_settle line.event && actor_same (Worker number) (Worker number)) h))),
      news_batch format number picture lines last (rests_after number rests after (entry_of number picture line)) after batched.1
          (λ none resting. absurd (no_settle line batched.0
          (first_so (is_settle line.event) (not (list_any (is_held_by (Worker number)) after.opened))
          (subst (λ b. (if b then is_settle line.event && not (list_any (is_held_by (Worker number)) after.opened) else rests) ≡ true)
          ((actor_decides (Worker number) (Worker number)).1 refl) resting)))),
    )

-- an idle settle brings news where the last picture is newer than the worker's
settle_brings : (at n : ℕ) (before after : JournalParts) (old new : WorkerParts) (committed : HasCommitted at n before after old new)
    → WorksIn old (world_now committed.turn) → LearnsAtRest after old → old.lines ≡ []
    → SameOpen old.number [] (world_now committed.turn).opened → IsBehind old.number (world_now committed.turn)
settle_brings at n before after old new committed works learns none shut =
    let turn : JournalParts = committed.turn in
    let stands : IsWorkerIn old (world_now turn) =
    subst (λ (lines : List BatchLine). IsWorkerIn old (world_after Two (world_now turn) (entries_of old.number old.picture lines))) none
    (works.made.leads Two (world_now turn) works.has) in
    let newer : old.picture.version < version_shown after = learns (none, λ connection. stands.has connection ∙ sym (shut connection)) in
    let held : version_held (world_now turn) old.number ≡ old.picture.version = ap (λ (p : Picture). p.version) works.has.holds in
    let shown : version_shown after ≡ last_version (world_now turn) =
    ap last_version (world_with turn after (entries_made old ++ settle_made old at n turn ∷ []) committed.settled.entered)
    ∙ ap (λ (lines : List BatchLine). last_version (world_after turn.format (world_now turn) (entries_of old.number old.picture lines ++ settle_made old at n turn ∷ []))) none in
    subst₂ (λ one other. one < other) (sym held) shown newer

-- so a commit leaves what is said of a worker's settles
pub news_more : (at n : ℕ) (before after : JournalParts) (old new : WorkerParts) → WorksIn old (world_now before) → HasCommitted at n before after old new
    → LearnsAtRest after old → HasNews (Worker old.number) before → HasNews (Worker old.number) after
news_more at n before after old new works committed learns news =
    let turn : JournalParts = committed.turn in
    let begun : World = opening turn.workers turn.node in
    let there : WorksIn old (world_now turn) = works_on old before turn committed.grows works in
    subst (HasNews (Worker old.number)) (sym committed.settled.entered)
    (news_append turn.format old.number true begun turn.journal (entries_made old ++ settle_made old at n turn ∷ [])
    (news_stays (Worker old.number) before turn committed.grows news)
    (news_batch turn.format old.number old.picture old.lines (settle_made old at n turn) (rests_at turn.format old.number true begun turn.journal) (world_now turn)
    (lines_batched turn.format old.number (world_now turn) old.lines (there.made.chosen turn.format (world_now turn) there.has))
    (λ none resting.
    settle_brings at n before after old new committed there learns none
    (none_open turn.format old.number true begun turn.journal (opens_held turn.workers turn.node) (λ is connection. refl) resting))))
