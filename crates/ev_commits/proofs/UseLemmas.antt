-- Nothing that a worker names was reaped before it settles.
use Rattle.std.proofs.Common.{◌≡◌, ◌<◌, ◌==◌, ◌&&◌, ℕ, Bool, true, List, [], ◌∷◌, ◌++◌, filter, length, inl, inr, refl, ap, sym, ◌∙◌, subst, append_assoc, arith}
use Rattle.std.proofs.Math.Seq.{take-length}
use Rattle.std.specs.Cmp.{first_so, second_so}
use Rattle.std.specs.List.{list_any}
use Rattle.std.proofs.lemmas.Bool.{false≢true, or_left, or_right}
use Rattle.std.proofs.lemmas.List.Folds.{list_any-append, list_any_at}
use Rattle.ev_types.specs.Same.{numbers_decide}
use Rattle.ev_types.specs.declared.events.Entry.{Entry}
use Rattle.ev_types.specs.declared.journals.Format.{Format}
use Rattle.ev_model.specs.World.{World, OpenMember, last_version, opening}
use Rattle.ev_model.specs.Connections.{is_member}
use Rattle.ev_model.specs.Dead.{is_in_use, is_open_on, numbers_in_use, picture_held, shown_at}
use Rattle.ev_model.specs.Laws.{Told, world_told}
use Rattle.ev_model.specs.Picture.{has_number, is_shown}
use Rattle.ev_model.specs.Runs.{RunsFrom, world_after}
use Rattle.ev_model.specs.Step.{step}
use Rattle.ev_model.specs.declared.pictures.Picture.{Picture}
use Rattle.ev_model_laws.proofs.AnyLemmas.{or_so}
use Rattle.ev_model_laws.proofs.OperationLists.{IsIn, any_at, in_filter}
use Rattle.ev_model_laws.proofs.PictureLemmas.{in_use_is}
use Rattle.ev_model_laws.proofs.PlaceLemmas.{Runs}
use Rattle.ev_model_laws.specs.Kept.{numbers_gone}
use Rattle.ev_model_laws.proofs.InUseLemmas.{runs_use}
use Rattle.ev_worker.specs.Workers.{IsWorkerIn, SameOpen, WorkerParts}
use Rattle.ev_actors.proofs.SettleLemmas.{held_now}
use Rattle.ev_actors.proofs.SinceLemmas.{in_kept}
use Rattle.ev_actors.proofs.WorldLemmas.{after_append}
use Rattle.ev_actors.specs.Journals.{JournalParts, WorksIn, entries_made, settle_made, with_settled, world_behind, world_now}
use Rattle.ev_commits.specs.Seen.{IsSound, NamesNothingGone, is_named_by}

-- a picture that a worker holds is in use
held_used : (world : World) (worker number : ℕ) → worker < length world.held → is_shown number (picture_held world worker).shown ≡ true
    → has_number number (numbers_in_use world) ≡ true
held_used world worker number within shown =
    in_use_is number world
    ∙ list_any-append (λ version. is_shown number (shown_at world version)) world.held (last_version world ∷ [])
    ∙ or_left (list_any (λ version. is_shown number (shown_at world version)) world.held) (list_any (λ version. is_shown number (shown_at world version)) (last_version world ∷ []))
    (list_any_at (λ version. is_shown number (shown_at world version)) world.held worker 0 within shown)

in_any : {X : Type 0} (p : X → Bool) (xs : List X) → list_any p xs ≡ true → (x : X) × IsIn x xs × (p x ≡ true)
in_any p [] h = absurd (false≢true h)
in_any p (x ∷ xs) h =
    or_so (p x) (list_any p xs) (λ first. (x, inl refl, first))
    (λ rest. let found = in_any p xs rest in (found.0, inr found.1, found.2))
    h

both : (a b : Bool) → a ≡ true → b ≡ true → (a && b) ≡ true
both a b one other = ap (λ c. c && b) one ∙ other

-- a connection that the worker has open is open in the world
own_used : (worker number : ℕ) (opened others : List OpenMember) → SameOpen worker opened others
    → list_any (λ (m : OpenMember). (m.worker == worker) && is_open_on number m) opened ≡ true → list_any (is_open_on number) others ≡ true
own_used worker number opened others same any =
    let found = in_any (λ (m : OpenMember). (m.worker == worker) && is_open_on number m) opened any in
    let m : OpenMember = found.0 in
    let own : (m.worker == worker) ≡ true = first_so (m.worker == worker) (is_open_on number m) found.2 in
    let itself : is_member worker m.connection m ≡ true = both (m.worker == worker) (m.connection == m.connection) own ((numbers_decide m.connection m.connection).1 refl) in
    let kept : IsIn m (filter (is_member worker m.connection) others) =
    subst (IsIn m) (same m.connection) (in_kept (is_member worker m.connection) m opened found.1 itself) in
    any_at (is_open_on number) m others (in_filter (is_member worker m.connection) m others kept).0
    (second_so (m.worker == worker) (is_open_on number m) found.2)

-- what a worker names is in use in a world that it represents
named_used : (worker : WorkerParts) (number : ℕ) (world : World) → worker.number < length world.held → IsWorkerIn worker world
    → is_named_by worker number ≡ true → is_in_use world number ≡ true
named_used worker number world within stands named =
    or_so (is_shown number worker.picture.shown) (list_any (λ (m : OpenMember). (m.worker == worker.number) && is_open_on number m) worker.opened)
    (λ shown.
    or_left (has_number number (numbers_in_use world)) (list_any (is_open_on number) world.opened)
    (held_used world worker.number number within (ap (λ (p : Picture). is_shown number p.shown) stands.holds ∙ shown)))
    (λ opened.
    or_right (has_number number (numbers_in_use world)) (list_any (is_open_on number) world.opened)
    (own_used worker.number number worker.opened world.opened stands.has opened))
    named

runs_before : (format : Format) (workers : ℕ) (world : World) (entries more : List Entry) → RunsFrom format workers world (entries ++ more)
    → RunsFrom format workers world entries
runs_before format workers world [] more runs = tt
runs_before format workers world (entry ∷ entries) more runs =
    (runs.0, runs.1, runs_before format workers (step format world entry.actor entry.event).0 entries more runs.2)

pub names_nothing_gone : (turn after : JournalParts) (old : WorkerParts) (at n : ℕ) → IsSound after → WorksIn old (world_now turn) → old.number < turn.workers
    → after ≡ with_settled old at n turn → NamesNothingGone old turn
names_nothing_gone turn after old at n sound works within entered number named =
    let journal : List Entry = turn.journal ++ entries_made old in
    let told : Told = record { format = turn.format; workers = turn.workers; node = turn.node; journal = journal } in
    let entry : Entry = settle_made old at n turn in
    let answers : RunsFrom turn.format turn.workers (opening turn.workers turn.node) (turn.journal ++ (entries_made old ++ entry ∷ [])) =
    subst (λ (p : JournalParts). RunsFrom p.format p.workers (opening p.workers p.node) p.journal) entered sound.answers in
    let runs : Runs told =
    runs_before turn.format turn.workers (opening turn.workers turn.node) journal (entry ∷ [])
    (subst (RunsFrom turn.format turn.workers (opening turn.workers turn.node)) (sym (append_assoc turn.journal (entries_made old) (entry ∷ []))) answers) in
    let behind : world_told told (length journal) ≡ world_behind old turn =
    ap (world_after turn.format (opening turn.workers turn.node)) (take-length journal)
    ∙ after_append turn.format (opening turn.workers turn.node) turn.journal (entries_made old) in
    let used : is_in_use (world_behind old turn) number ≡ true =
    named_used old number (world_behind old turn) (subst (λ m. old.number < m) (sym (held_now turn (entries_made old))) within)
    (works.made.leads turn.format (world_now turn) works.has) named in
    ap (λ (es : List Entry). has_number number (numbers_gone es)) (sym (take-length journal))
    ∙ runs_use told runs (length journal) (omega arith) number (ap (λ (w : World). is_in_use w number) behind ∙ used)
