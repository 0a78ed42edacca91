-- A turn shows what its pass has seen and then entries of others, and ends with one commit more.
use Rattle.std.proofs.Common.{◌≡◌, ◌≤◌, ◌<◌, ◌+◌, ◌-◌, if◌then◌else◌, nat_lt, ℕ, true, false, List, [], ◌∷◌, ◌++◌, length, refl, ap, sym, ◌∙◌, subst, subst₂, append_assoc, length-append, le_trans, arith}
use Rattle.std.proofs.Common.{Bool, Err, Ok}
use Rattle.std.proofs.lemmas.Bool.Decides.{nat_tests}
use Rattle.std.specs.List.{AllByRecursion as ByRecursion}
use Rattle.std.specs.Prelude.{IfOk, OnOk, Result}
use Rattle.std.specs.declared.alloc.AllocError.{AllocError}
use Rattle.ev_types.specs.Events.{IsMainSide, MayMake}
use Rattle.ev_types.specs.Scripts.{items_in}
use Rattle.ev_types.specs.declared.events.Actor.{Actor}
use Rattle.ev_types.specs.declared.events.Actor.TheVariants.{Stream, Health, Timer, Main, Worker}
use Rattle.ev_types.specs.declared.events.Entry.{Entry}
use Rattle.ev_types.specs.declared.events.Event.{Event}
use Rattle.ev_types.specs.declared.events.Event.TheVariants.{Connect, Disconnect, Response, Health as health, FetchTimeout, DrainTimeout, TtlExpired, Publish, Reap, Accept, Close, Settle}
use Rattle.ev_types.specs.declared.journals.Format.{Format}
use Rattle.ev_model.specs.declared.pictures.Shown.{Shown}
use Rattle.ev_model.specs.World.{World, opening}
use Rattle.ev_model.specs.Dead.{last_picture, version_held}
use Rattle.ev_model.specs.declared.pictures.Picture.{Picture}
use Rattle.ev_model.specs.Operations.{Operation, entry_of}
use Rattle.ev_model.specs.Picture.{shown_of}
use Rattle.ev_model.specs.Runs.{RunsFrom, is_batched, world_after}
use Rattle.ev_model.specs.Step.{step}
use Rattle.ev_model_laws.proofs.KeepLemmas.{either, step-each}
use Rattle.ev_model_laws.proofs.SeenLemmas.{same_seen}
use Rattle.ev_model_laws.proofs.RunNumberLemmas.{rest_made}
use Rattle.ev_gate.specs.History.{GrowsWithout, Knowledge, seen_of}
use Rattle.ev_worker.specs.Batches.{entries_of}
use Rattle.ev_worker.specs.Workers.{AreAnswered, HasWorker, IsAnswer, WorkerParts}
use Rattle.ev_worker.specs.declared.lines.BatchLine.{BatchLine}
use Rattle.ev_worker.specs.declared.lines.Outcome.{Outcome}
use Rattle.ev_actors.specs.Journals.{JournalParts, SufficeFor, WorksIn, entries_made, settle_made, with_entries, world_now}
use Rattle.ev_actors.specs.Taken.{HasEntered, HasSettled}
use Rattle.ev_actors.proofs.LineLemmas.{main_alone}
use Rattle.ev_actors.proofs.SettleLemmas.{published_now, world_with}
use Rattle.ev_actors.proofs.WorldLemmas.{AreOfOthers, entries_leave}
use Rattle.ev_commits.specs.Commits.{AreElsewhere, GrowsByOthers, commits_from, commits_of, entries_in, seat_of}
use Rattle.ev_commits.specs.Seen.{CommitsOnce, HasCommitted, IsSound, began_as, journal_with, version_after, version_shown}
use Rattle.ev_commits.specs.declared.kept.Began.{Began}
use Rattle.ev_commits.proofs.CommitLemmas.{IsSeated, back_each, commits_append, elsewhere, entries_append, runs_behind, seated, whole}

-- no event takes a picture away
step_grows : (format : Format) (world : World) (actor : Actor) (event : Event) → length world.pictures ≤ length (step format world actor event).0.pictures
step_grows format world actor event =
    let same : length world.pictures ≤ length world.pictures = omega arith in
    let more : length world.pictures ≤ length (world.pictures ++ shown_of world ∷ []) =
    omega (arith, length-append world.pictures (shown_of world ∷ [])) in
    step-each (λ (w : World). length world.pictures ≤ length w.pictures) format world actor event same (record {
      managed = λ event is.
          subst (λ (pictures : List Shown). length world.pictures ≤ length pictures) (sym (same_seen format world actor event is).pictures) same;
      published = either (λ (w : World). length world.pictures ≤ length w.pictures) _ _ _ same more;
      reaped = same;
      accepted = λ ask worker is. same;
      closed = λ connection worker is. same;
      settled = λ worker is. same;
    })

pictures_grow : (format : Format) (world : World) (entries : List Entry) → length world.pictures ≤ length (world_after format world entries).pictures
pictures_grow format world [] = omega arith
pictures_grow format world (entry ∷ entries) =
    le_trans (step_grows format world entry.actor entry.event) (pictures_grow format (step format world entry.actor entry.event).0 entries)

less_one : (m n : ℕ) → m ≤ n → m - 1 ≤ n - 1
less_one m n h = omega arith

-- no version falls
forward : (before after : JournalParts) (entries : List Entry) → after ≡ with_entries entries before
    → (last_picture (world_now before)).version ≤ (last_picture (world_now after)).version
forward before after entries is =
    less_one (length (world_now before).pictures) (length (world_now after).pictures)
    (subst (λ (w : World). length (world_now before).pictures ≤ length w.pictures) (sym (world_with before after entries is))
    (pictures_grow before.format (world_now before) entries))

-- an entry that is no accept or close is a commit
pub enters_once : (workers : ℕ) (o : Operation) (before after : JournalParts) → IsSound before → IsMainSide o.actor → MayMake workers o.actor o.event
    → HasEntered o before after → CommitsOnce (seat_of o.actor) before after
enters_once workers o before after sound side may entered =
    let entry : Entry = entry_of o entered.answer in
    record {
      began = ap began_as entered.entered;
      entries = entry ∷ [];
      commits =
          ap (λ (p : JournalParts). commits_of p.journal) entered.entered
          ∙ commits_append before.journal (entry ∷ []) sound.batches
          ∙ ap (λ b. commits_of before.journal ++ (if b then [] else (seat_of o.actor, entry ∷ []) ∷ [])) (main_alone workers o.actor o.event may side).0;
      forward = forward before after (entry ∷ []) entered.entered;
    }

-- the lines of a batch are accepts and closes
answer_batched : (worker : ℕ) (world : World) (event : Event) (outcome : Outcome) → IsAnswer worker world event outcome → is_batched event ≡ true
answer_batched worker world Connect outcome is = absurd is
answer_batched worker world Disconnect outcome is = absurd is
answer_batched worker world (Response response) outcome is = absurd is
answer_batched worker world (health cluster host healthy) outcome is = absurd is
answer_batched worker world (FetchTimeout timeout) outcome is = absurd is
answer_batched worker world (DrainTimeout listener) outcome is = absurd is
answer_batched worker world (TtlExpired kind name) outcome is = absurd is
answer_batched worker world Publish outcome is = absurd is
answer_batched worker world Reap outcome is = absurd is
answer_batched worker world (Accept ask) outcome is = refl
answer_batched worker world (Close connection) outcome is = refl
answer_batched worker world Settle outcome is = absurd is

abbrev pub AreBatched : List BatchLine → Type 0
AreBatched lines = ByRecursion (λ (line : BatchLine). is_batched line.event ≡ true) lines

-- each line of a batch is an accept or close
pub lines_batched : (format : Format) (worker : ℕ) (world : World) (lines : List BatchLine) → AreAnswered format worker world lines → AreBatched lines
lines_batched format worker world [] answered = tt
lines_batched format worker world (line ∷ lines) answered = (
  answer_batched worker world line.event line.outcome answered.0,
  lines_batched format worker (step format world (Worker worker) line.event).0 lines answered.1,
)

-- a batch and its settle are a commit
batch_once : (worker : WorkerParts) (begun : List Entry) (lines : List BatchLine) (entry : Entry) → AreBatched lines → is_batched entry.event ≡ false
    → commits_from begun (entries_of worker.number worker.picture lines ++ entry ∷ [])
    ≡ (seat_of entry.actor, begun ++ (entries_of worker.number worker.picture lines ++ entry ∷ [])) ∷ []
batch_once worker begun [] entry batched alone =
    ap (λ b. if b then commits_from (begun ++ entry ∷ []) [] else (seat_of entry.actor, begun ++ entry ∷ []) ∷ []) alone
batch_once worker begun (line ∷ lines) entry batched alone =
    let made : List Entry = entries_of worker.number worker.picture (line ∷ []) in
    ap (λ b. if b then commits_from (begun ++ made) (entries_of worker.number worker.picture lines ++ entry ∷ [])
    else (seat_of (Worker worker.number), begun ++ made) ∷ commits_from [] (entries_of worker.number worker.picture lines ++ entry ∷ [])) batched.0
    ∙ batch_once worker (begun ++ made) lines entry batched.1 alone
    ∙ ap (λ es. (seat_of entry.actor, es) ∷ []) (append_assoc begun made (entries_of worker.number worker.picture lines ++ entry ∷ []))

pub settles_once : (at n : ℕ) (before after : JournalParts) (old new : WorkerParts) → IsSound before → WorksIn old (world_now before)
    → HasSettled at n before after old new → CommitsOnce (seat_of (Worker old.number)) before after
settles_once at n before after old new sound works settled =
    let entry : Entry = settle_made old at n before in
    record {
      began = ap began_as settled.entered;
      entries = entries_made old ++ entry ∷ [];
      commits =
          ap (λ (p : JournalParts). commits_of p.journal) settled.entered
          ∙ commits_append before.journal (entries_made old ++ entry ∷ []) sound.batches
          ∙ ap (λ cs. commits_of before.journal ++ cs)
          (batch_once old [] old.lines entry (lines_batched before.format old.number (world_now before) old.lines (works.made.chosen before.format (world_now before) works.has)) refl);
      forward = forward before after (entries_made old ++ entry ∷ []) settled.entered;
    }

-- a turn shows what its pass has seen, and then entries of others
pub turned : (parts : JournalParts) (seat : ℕ) (start earlier later : List (ℕ × List Entry)) → IsSound parts → commits_of parts.journal ≡ start ++ later
    → GrowsWithout seat earlier later → GrowsByOthers seat (journal_with (began_as parts) (start ++ earlier)) parts
turned parts seat start earlier later sound are (more, goes_on, none) =
    let all : commits_of parts.journal ≡ (start ++ earlier) ++ more =
    are ∙ ap (λ cs. start ++ cs) goes_on ∙ sym (append_assoc start earlier more) in
    let journal : parts.journal ≡ entries_in (start ++ earlier) ++ entries_in more =
    sym (whole parts.journal sound.batches) ∙ ap entries_in all ∙ entries_append (start ++ earlier) more in
    record {
      more = entries_in more;
      grown = λ i. record { format = parts.format; workers = parts.workers; node = parts.node; journal = journal i };
      others = elsewhere seat more (back_each IsSeated (start ++ earlier) more (subst (ByRecursion IsSeated) all (seated parts.journal sound.batches))) none;
      runs =
          runs_behind parts.format parts.workers (opening parts.workers parts.node) (entries_in (start ++ earlier)) (entries_in more)
          (subst (RunsFrom parts.format parts.workers (opening parts.workers parts.node)) journal sound.answers);
    }

-- what a sound journal's commits hold is the journal
pub shown_whole : (parts : JournalParts) → IsSound parts → journal_with (began_as parts) (commits_of parts.journal) ≡ parts
shown_whole parts sound =
    λ i. record { format = parts.format; workers = parts.workers; node = parts.node; journal = whole parts.journal sound.batches i }

-- only the stream brings resources
of_stream : (workers : ℕ) (actor : Actor) (event : Event) → MayMake workers actor event → (seat_of actor ≡ 0 → ⊥) → items_in event ≡ 0
of_stream workers actor Connect may apart = refl
of_stream workers actor Disconnect may apart = refl
of_stream workers Stream (Response response) may apart = absurd (apart refl)
of_stream workers Health (Response response) may apart = absurd may
of_stream workers Timer (Response response) may apart = absurd may
of_stream workers Main (Response response) may apart = absurd may
of_stream workers (Worker worker) (Response response) may apart = absurd may
of_stream workers actor (health cluster host healthy) may apart = refl
of_stream workers actor (FetchTimeout timeout) may apart = refl
of_stream workers actor (DrainTimeout listener) may apart = refl
of_stream workers actor (TtlExpired kind name) may apart = refl
of_stream workers actor Publish may apart = refl
of_stream workers actor Reap may apart = refl
of_stream workers actor (Accept ask) may apart = refl
of_stream workers actor (Close connection) may apart = refl
of_stream workers actor Settle may apart = refl

others_draw : (format : Format) (workers : ℕ) (world : World) (entries : List Entry) → AreElsewhere 0 entries → RunsFrom format workers world entries
    → (world_after format world entries).made ≡ world.made
others_draw format workers world [] others runs = refl
others_draw format workers world (entry ∷ entries) others runs =
    others_draw format workers (step format world entry.actor entry.event).0 entries others.1 runs.2
    ∙ rest_made format world entry.actor entry.event (of_stream workers entry.actor entry.event runs.0 others.0)

no_items : (n made : ℕ) → n ≡ 0 → 0 < n → made + n < 4294967296
no_items n made none some = omega arith

none_needed : (workers : ℕ) (actor : Actor) (event : Event) (turn : JournalParts) → MayMake workers actor event → (seat_of actor ≡ 0 → ⊥) → SufficeFor event turn
none_needed workers actor event turn may apart = no_items (items_in event) (world_now turn).made (of_stream workers actor event may apart)

-- the numbers that suffice for the stream suffice at its turn; the others need none
pub still_suffice : (workers : ℕ) (actor : Actor) (event : Event) (before turn : JournalParts) → MayMake workers actor event
    → GrowsByOthers (seat_of actor) before turn → SufficeFor event before → SufficeFor event turn
still_suffice workers Stream event before turn may grows suffice =
    subst (λ n. 0 < items_in event → n + items_in event < 4294967296)
    (sym (ap (λ (w : World). w.made) (world_with before turn grows.more grows.grown)
    ∙ others_draw before.format before.workers (world_now before) grows.more grows.others grows.runs))
    suffice
still_suffice workers Health event before turn may grows suffice = none_needed workers Health event turn may (λ h. cc)
still_suffice workers Timer event before turn may grows suffice = none_needed workers Timer event turn may (λ h. cc)
still_suffice workers Main event before turn may grows suffice = none_needed workers Main event turn may (λ h. cc)
still_suffice workers (Worker worker) event before turn may grows suffice = none_needed workers (Worker worker) event turn may (λ h. omega arith)

-- entries of others leave what a worker does
apart_from : (number : ℕ) (actor : Actor) → (seat_of actor ≡ number + 4 → ⊥) → (worker : ℕ) → actor ≡ Worker worker → worker ≡ number → ⊥
apart_from number actor apart worker is same = apart (ap seat_of is ∙ ap (λ n. n + 4) same)

of_others : (number : ℕ) (entries : List Entry) → AreElsewhere (number + 4) entries → AreOfOthers number entries
of_others number [] others = tt
of_others number (entry ∷ entries) others = (apart_from number entry.actor others.0, of_others number entries others.1)

pub works_on : (worker : WorkerParts) (before turn : JournalParts) → GrowsByOthers (seat_of (Worker worker.number)) before turn
    → WorksIn worker (world_now before) → WorksIn worker (world_now turn)
works_on worker before turn grows works = record {
  begun = works.begun;
  made = works.made;
  has =
      subst (HasWorker worker.number worker.picture works.begun) (sym (world_with before turn grows.more grows.grown))
      (entries_leave worker.number worker.picture works.begun before.format (world_now before) grows.more (published_now before)
      (of_others worker.number grows.more grows.others) works.has);
}

-- what is known of the commits of a sound journal is the journal
pub known_whole : (parts : JournalParts) (began : Began) (commits : List (ℕ × List Entry)) → IsSound parts → began_as parts ≡ began
    → commits ≡ commits_of parts.journal → journal_with began commits ≡ parts
known_whole parts began commits sound is are =
    ap (λ (b : Began). journal_with b commits) (sym is) ∙ ap (journal_with (began_as parts)) are ∙ shown_whole parts sound

-- at a turn the pass has seen all, and others' entries lie between
pub turn_shows : (parts : JournalParts) (began : Began) (seat : ℕ) (before now : Knowledge Began (List Entry)) → IsSound parts → began_as parts ≡ began
    → commits_of parts.journal ≡ seen_of now → now ≡ record before { since = now.since } → GrowsWithout before.number before.since now.since
    → before.number ≡ seat → GrowsByOthers seat (journal_with began (seen_of before)) parts
turn_shows parts began seat before now sound is history knows grows numbered =
    subst (λ n. GrowsByOthers n (journal_with began (seen_of before)) parts) numbered
    (subst (λ (b : Began). GrowsByOthers before.number (journal_with b (seen_of before)) parts) is
    (turned parts before.number before.start before.since now.since sound
    (history ∙ ap (λ (k : Knowledge Began (List Entry)). k.start ++ now.since) knows) grows))

-- the version at the end of a turn isn't below that at the turn
pub turn_forward : (seat : ℕ) (before after : JournalParts) (seen : List (ℕ × List Entry)) → IsSound before → IsSound after → CommitsOnce seat before after
    → commits_of before.journal ≡ seen → version_after (began_as after) seen ≤ version_after (began_as after) (commits_of after.journal)
turn_forward seat before after seen sound sound_then once are =
    subst₂ (λ m n. m ≤ n)
    (ap (λ (p : JournalParts). (last_picture (world_now p)).version) (sym (known_whole before (began_as after) seen sound (sym once.began) (sym are))))
    (ap (λ (p : JournalParts). (last_picture (world_now p)).version) (sym (shown_whole after sound_then)))
    once.forward

-- after its turn a pass has seen no older version than it had heard of
pub turn_newer : (seat : ℕ) (before after : JournalParts) (began : Began) (heard : List (ℕ × List Entry)) → IsSound before → CommitsOnce seat before after
    → began_as before ≡ began → version_after (began_as before) heard ≤ version_after (began_as before) (commits_of before.journal)
    → version_after began heard ≤ version_shown after
turn_newer seat before after began heard sound once is newer =
    le_trans
    (subst₂ (λ m n. m ≤ n) (ap (λ (b : Began). version_after b heard) is) (ap version_shown (shown_whole before sound)) newer)
    once.forward

-- a worker's picture has no newer version than the last one of the world in which it works
pub works_behind : (worker : WorkerParts) (parts : JournalParts) → WorksIn worker (world_now parts) → worker.picture.version ≤ version_shown parts
works_behind worker parts works =
    let held : version_held (world_now parts) worker.number < length (world_now parts).pictures = published_now parts worker.number in
    let same : version_held (world_now parts) worker.number ≡ worker.picture.version = ap (λ (p : Picture). p.version) works.has.holds in
    below (version_held (world_now parts) worker.number) worker.picture.version (length (world_now parts).pictures) held same
  where
    below : (m n k : ℕ) → m < k → m ≡ n → n ≤ k - 1
    below m n k less same = omega arith

-- a worker that has taken its memory has committed as the worker that it was
prepared_commits : (at n spare : ℕ) (before after : JournalParts) (old new : WorkerParts) → HasCommitted at n before after (record old { spare = spare }) new
    → HasCommitted at n before after old new
prepared_commits at n spare before after old new committed = record {
  turn = committed.turn;
  grows = committed.grows;
  settled = record {
    entered = committed.settled.entered;
    number = committed.settled.number;
    lines = committed.settled.lines;
    works = committed.settled.works;
  };
  alive = committed.alive;
}

pub commits_if : (result : Result Bool AllocError) (at n : ℕ) (before asked after : JournalParts) (old prepared new : WorkerParts)
    → prepared ≡ record old { spare = prepared.spare } → asked ≡ before → OnOk result (HasCommitted at n asked after prepared new)
    → IfOk result (λ made. made ≡ true → HasCommitted at n before after old new)
commits_if (Ok made) at n before asked after old prepared new kept same committed =
    λ is.
    prepared_commits at n prepared.spare before after old new
    (subst (λ (w : WorkerParts). HasCommitted at n before after w new) kept
    (subst (λ (p : JournalParts). HasCommitted at n p after prepared new) same committed))
commits_if (Err error) at n before asked after old prepared new kept same committed = tt

-- an idle worker whose version isn't the newest has seen a newer one after its turn
pub newer_if : (result : Result Bool AllocError) (version newest later : ℕ) (Idle : Type 0) → (Idle → version < newest) → OnOk result (newest ≤ later)
    → IfOk result (λ made. made ≡ true → Idle → version < later)
newer_if (Ok made) version newest later Idle less seen = λ is idle. let below : version < newest = less idle in let above : newest ≤ later = seen in omega arith
newer_if (Err error) version newest later Idle less seen = tt

pub is_newer : (version seen heard newest : ℕ) → version ≤ seen → seen ≤ heard → heard ≤ newest → (newest ≡ version → ⊥) → version < newest
is_newer version seen heard newest one other third apart = above version newest (le_trans one (le_trans other third)) apart (nat_lt version newest) refl
  where
    above : (m n : ℕ) → m ≤ n → (n ≡ m → ⊥) → (b : Bool) → nat_lt m n ≡ b → m < n
    above m n le apart true is = grind (arith, nat_tests)
    above m n le apart false is = absurd (apart (let same : n ≤ m = grind (arith, nat_tests) in omega arith))
