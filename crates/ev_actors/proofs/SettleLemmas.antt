-- What a settle enters, and that its worker works on.
use Rattle.std.proofs.Common.{◌≡◌, ℕ, zero, suc, ◌<◌, List, [], ◌∷◌, ◌++◌, map, length, replicate, refl, sym, ap, ◌∙◌, subst}
use Rattle.std.proofs.lemmas.List.{map-append}
use Rattle.ev_types.specs.declared.events.Actor.TheVariants.{Worker}
use Rattle.ev_types.specs.declared.events.Entry.{Entry}
use Rattle.ev_types.specs.declared.events.Event.TheVariants.{Settle}
use Rattle.ev_types.specs.declared.journals.Format.{Format}
use Rattle.ev_model.specs.declared.pictures.Picture.{Picture}
use Rattle.ev_model.specs.World.{World, opening}
use Rattle.ev_model.specs.Connections.{settle}
use Rattle.ev_model.specs.Step.{step}
use Rattle.ev_model.specs.Runs.{world_after, RunsFrom}
use Rattle.ev_model.specs.Operations.{Operation, operation_of}
use Rattle.ev_model.proofs.RunLemmas.{world_after-more, length-held}
use Rattle.ev_model_laws.specs.Kept.{HoldsPublished}
use Rattle.ev_model_laws.proofs.HeldLemmas.{opens_held}
use Rattle.ev_worker.specs.Batches.{entries_of}
use Rattle.ev_worker.specs.Workers.{HasWorker, IsMadeFrom, IsToldBy, IsWorkerIn, WorkerParts}
use Rattle.ev_worker.specs.declared.lines.BatchLine.{BatchLine}
use Rattle.ev_actors.specs.Journals.{JournalParts, WorksIn, entries_made, settle_made, with_entries, with_settled, world_behind, world_now}
use Rattle.ev_actors.specs.Taken.{GoesOn, HasSettled, operations_in}
use Rattle.ev_actors.specs.Working.{operation_made, operations_made}
use Rattle.ev_actors.proofs.WorldLemmas.{AreOfOthers, after_append, entries_leave, held_after, worker_draws}

-- the journal with more entries
pub goes_on_by : (before after : JournalParts) (entries : List Entry) → after ≡ with_entries entries before → GoesOn before after
goes_on_by before after entries is =
    is ∙ ap (λ (journal : List Entry). record before { journal = journal }) (sym (ap (λ (p : JournalParts). p.journal) is))

-- and once more
pub goes_on_twice : (before next after : JournalParts) → GoesOn before next → GoesOn next after → GoesOn before after
goes_on_twice before next after one other = other ∙ ap (λ (p : JournalParts). record p { journal = after.journal }) one

-- leads to the world after these entries
pub world_with : (before after : JournalParts) (entries : List Entry) → after ≡ with_entries entries before
    → world_now after ≡ world_after before.format (world_now before) entries
world_with before after entries is =
    ap world_now is ∙ after_append before.format (opening before.workers before.node) before.journal entries

-- and holds their operations
pub operations_with : (before after : JournalParts) (entries : List Entry) → after ≡ with_entries entries before
    → operations_in after ≡ operations_in before ++ map operation_of entries
operations_with before after entries is = ap operations_in is ∙ map-append operation_of before.journal entries

pub published_now : (parts : JournalParts) → HoldsPublished (world_now parts)
published_now parts = held_after parts.format (opening parts.workers parts.node) parts.journal (opens_held parts.workers parts.node)

replicated : (n : ℕ) → length {A = ℕ} (replicate n 0) ≡ n
replicated zero = refl
replicated (suc n) = ap suc (replicated n)

held_count : (format : Format) (world : World) (entries : List Entry) → length (world_after format world entries).held ≡ length world.held
held_count format world [] = refl
held_count format world (entry ∷ entries) =
    held_count format (step format world entry.actor entry.event).0 entries ∙ length-held format world entry.actor entry.event

-- there are as many workers as the journal's
pub held_now : (parts : JournalParts) (entries : List Entry) → length (world_after parts.format (world_now parts) entries).held ≡ parts.workers
held_now parts entries =
    held_count parts.format (world_now parts) entries
    ∙ held_count parts.format (opening parts.workers parts.node) parts.journal
    ∙ replicated parts.workers

-- the world after a settle
pub world_settled : (before after : JournalParts) (worker : WorkerParts) (at n : ℕ) → after ≡ with_settled worker at n before
    → world_now after ≡ (settle worker.number (world_behind worker before)).0
world_settled before after worker at n is =
    world_with before after (entries_made worker ++ settle_made worker at n before ∷ []) is
    ∙ world_after-more before.format (world_now before) (entries_made worker) (settle_made worker at n before)

-- a worker that took the memory for its next lines works as before
same_works : (old : WorkerParts) (spare : ℕ) (world : World) → WorksIn old world → WorksIn (record old { spare = spare }) world
same_works old spare world works = record {
  begun = works.begun;
  made = record { answers = works.made.answers; chosen = works.made.chosen; leads = works.made.leads };
  has = works.has;
}

-- a worker that settles
pub settles : (before after : JournalParts) (old prepared new : WorkerParts) (at n spare : ℕ) (closed moved : List ℕ) (picture : Picture)
    → prepared ≡ record old { spare = spare }
    → WorksIn old (world_now before)
    → old.number < before.workers
    → after ≡ with_settled prepared at n before
    → IsToldBy prepared.number closed moved picture (world_behind prepared before)
    → new.number ≡ prepared.number
    → new.lines ≡ []
    → IsMadeFrom new.opened new
    → ((world : World) → IsWorkerIn prepared world → prepared.number < length world.held → IsToldBy prepared.number closed moved picture world
    → IsWorkerIn new (settle prepared.number world).0)
    → HasSettled at n before after old new
settles before after old prepared new at n spare closed moved picture kept works below entered told number lines begins leads =
    let works_on : WorksIn prepared (world_now before) =
    subst (λ (w : WorkerParts). WorksIn w (world_now before)) (sym kept) (same_works old spare (world_now before) works) in
    let fits : prepared.number < length (world_behind prepared before).held =
    subst (λ m. prepared.number < m) (sym (held_now before (entries_made prepared)))
    (subst (λ (w : WorkerParts). w.number < before.workers) (sym kept) below) in
    record {
      entered = entered ∙ ap (λ (w : WorkerParts). with_settled w at n before) kept;
      number = number ∙ ap (λ (w : WorkerParts). w.number) kept;
      lines = lines;
      works = record {
        begun = new.opened;
        made = begins;
        has =
            subst (IsWorkerIn new) (sym (world_settled before after prepared at n entered))
            (leads (world_behind prepared before) (works_on.made.leads before.format (world_now before) works_on.has) fits told);
      };
    }

-- a batch's operations
pub batch_operations : (number : ℕ) (picture : Picture) (lines : List BatchLine)
    → map operation_of (entries_of number picture lines) ≡ map (operation_made number) lines
batch_operations number picture [] = refl
batch_operations number picture (line ∷ lines) = ap (λ (os : List Operation). operation_made number line ∷ os) (batch_operations number picture lines)

-- what a settle puts into the journal
pub settled_operations : (before after : JournalParts) (worker : WorkerParts) (at n : ℕ) → after ≡ with_settled worker at n before
    → operations_in after
    ≡ operations_in before ++ (operations_made worker ++ record { actor = Worker worker.number; at = at; step = n; event = Settle } ∷ [])
settled_operations before after worker at n is =
    operations_with before after (entries_made worker ++ settle_made worker at n before ∷ []) is
    ∙ ap (λ (os : List Operation). operations_in before ++ os)
    (map-append operation_of (entries_made worker) (settle_made worker at n before ∷ [])
    ∙ ap (λ (os : List Operation). os ++ operation_of (settle_made worker at n before) ∷ []) (batch_operations worker.number worker.picture worker.lines))

-- a batch and its settle are of no other worker
others_by : (number other : ℕ) (picture : Picture) (lines : List BatchLine) (last : Entry) → (number ≡ other → ⊥) → last.actor ≡ Worker number
    → AreOfOthers other (entries_of number picture lines ++ last ∷ [])
others_by number other picture [] last apart own = (λ worker is same. apart (named number worker (sym own ∙ is) ∙ same), tt)
  where
    named : (one two : ℕ) → Worker one ≡ Worker two → one ≡ two
    named one two is = cc
others_by number other picture (line ∷ lines) last apart own =
    (λ worker is same. apart (named number worker is ∙ same), others_by number other picture lines last apart own)
  where
    named : (one two : ℕ) → Worker one ≡ Worker two → one ≡ two
    named one two is = cc

-- so others work on
pub others_work : (before after : JournalParts) (worker : WorkerParts) (at n : ℕ) → after ≡ with_settled worker at n before
    → (other : WorkerParts) → (other.number ≡ worker.number → ⊥) → WorksIn other (world_now before) → WorksIn other (world_now after)
others_work before after worker at n is other apart works = record {
  begun = works.begun;
  made = works.made;
  has =
      subst (HasWorker other.number other.picture works.begun) (sym (world_with before after (entries_made worker ++ settle_made worker at n before ∷ []) is))
      (entries_leave other.number other.picture works.begun before.format (world_now before) (entries_made worker ++ settle_made worker at n before ∷ [])
      (published_now before)
      (others_by worker.number other.number worker.picture worker.lines (settle_made worker at n before) (λ same. apart (sym same)) refl)
      works.has);
}

lines_draw : (format : Format) (workers number : ℕ) (picture : Picture) (lines : List BatchLine) (world : World)
    → RunsFrom format workers world (entries_of number picture lines) → (world_after format world (entries_of number picture lines)).made ≡ world.made
lines_draw format workers number picture [] world run = refl
lines_draw format workers number picture (line ∷ lines) world run =
    lines_draw format workers number picture lines (step format world (Worker number) line.event).0 run.2
    ∙ worker_draws format workers number world line.event run.0

-- and no number is allocated
pub settle_draws : (before after : JournalParts) (worker : WorkerParts) (at n : ℕ) → after ≡ with_settled worker at n before
    → worker.number < before.workers → WorksIn worker (world_now before) → (world_now after).made ≡ (world_now before).made
settle_draws before after worker at n is below works =
    ap (λ (w : World). w.made) (world_settled before after worker at n is)
    ∙ lines_draw before.format before.workers worker.number worker.picture worker.lines (world_now before)
    (works.made.answers before.format before.workers (world_now before) below works.has)
