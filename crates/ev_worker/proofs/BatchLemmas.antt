-- A batch that goes on by a line.
use Rattle.std.proofs.Common.{◌≡◌, ℕ, ◌<◌, List, [], ◌∷◌, ◌++◌, refl, sym, ap, ◌∙◌, subst}
use Rattle.std.proofs.lemmas.List.{map-append}
use Rattle.ev_types.specs.Events.{MayMake}
use Rattle.ev_types.specs.declared.events.Actor.TheVariants.{Worker as by_worker}
use Rattle.ev_types.specs.declared.events.Ask.{Ask}
use Rattle.ev_types.specs.declared.events.Entry.{Entry}
use Rattle.ev_types.specs.declared.journals.Format.{Format}
use Rattle.ev_model.specs.World.{World, OpenMember}
use Rattle.ev_model.specs.Step.{step}
use Rattle.ev_model.specs.Runs.{RunsFrom, world_after}
use Rattle.ev_model.specs.Connections.{accepted, closed, is_open}
use Rattle.ev_model.specs.declared.pictures.Picture.{Picture}
use Rattle.ev_model.proofs.RunLemmas.{RunsFrom-more, world_after-more}
use Rattle.ev_worker.specs.declared.lines.Accepted.{Accepted}
use Rattle.ev_worker.specs.declared.lines.Closed.{Closed}
use Rattle.ev_worker.specs.declared.lines.BatchLine.{BatchLine}
use Rattle.ev_worker.specs.declared.lines.Outcome.TheVariants.{Accepted as accepted_outcome, Closed as closed_outcome}
use Rattle.ev_worker.specs.Batches.{accept_line, accepted_answer, accepted_as, close_line, closed_answer, closed_as, entries_of, entry_of, outcome_answer}
use Rattle.ev_worker.specs.Workers.{AreAnswered, HasWorker, IsAnswer, IsMadeFrom, IsWorkerIn, SameOpen, WorkerParts}
use Rattle.ev_worker.proofs.OpenLemmas.{accept_answer, accepted_same, close_answer, closed_same, open_same}

-- a batch without lines is made from what is open
pub begins : (worker : WorkerParts) → worker.lines ≡ [] → IsMadeFrom worker.opened worker
begins worker none = record {
  answers = λ format workers world below has. subst (λ lines. RunsFrom format workers world (entries_of worker.number worker.picture lines)) (sym none) tt;
  chosen = λ format world has. subst (λ lines. AreAnswered format worker.number world lines) (sym none) tt;
  leads = λ format world has. subst (λ lines. IsWorkerIn worker (world_after format world (entries_of worker.number worker.picture lines))) (sym none) has;
}

-- one line more is answered where the lines before it lead
answered_more : (format : Format) (worker : ℕ) (picture : Picture) (world : World) (lines : List BatchLine) (line : BatchLine) → AreAnswered format worker world lines
    → IsAnswer worker (world_after format world (entries_of worker picture lines)) line.event line.outcome → AreAnswered format worker world (lines ++ line ∷ [])
answered_more format worker picture world [] line all last = (last, tt)
answered_more format worker picture world (first ∷ lines) line all last =
    (all.0, answered_more format worker picture (step format world (by_worker worker) first.event).0 lines line all.1 last)

-- one line more, after which these connections are open, is answered by the machine wherever the worker is before it
record GoesOn (worker : WorkerParts) (opened : List OpenMember) (line : BatchLine) : Type 0 where
  may : (workers : ℕ) → worker.number < workers → MayMake workers (by_worker worker.number) line.event
  answered : (format : Format) (world : World) → IsWorkerIn worker world
      → outcome_answer worker.picture line.outcome ≡ (step format world (by_worker worker.number) line.event).1
  chosen : (world : World) → IsWorkerIn worker world → IsAnswer worker.number world line.event line.outcome
  leads : (format : Format) (world : World) → IsWorkerIn worker world
      → HasWorker worker.number worker.picture opened (step format world (by_worker worker.number) line.event).0

-- the worker with one line more, and these connections open
abbrev with_line : WorkerParts → List OpenMember → BatchLine → ℕ → WorkerParts
with_line worker opened line spare = record worker { opened = opened; lines = worker.lines ++ line ∷ []; spare = spare }

made_more : (begun : List OpenMember) (worker : WorkerParts) (opened : List OpenMember) (line : BatchLine) (spare : ℕ) → GoesOn worker opened line
    → IsMadeFrom begun worker → IsMadeFrom begun (with_line worker opened line spare)
made_more begun worker opened line spare goes made =
    let entries : List Entry = entries_of worker.number worker.picture worker.lines in
    let entry : Entry = entry_of worker.number worker.picture line in
    let longer : entries_of worker.number worker.picture (worker.lines ++ line ∷ []) ≡ entries ++ entry ∷ [] =
    map-append (entry_of worker.number worker.picture) worker.lines (line ∷ []) in
    record {
      answers = λ format workers world below has.
          subst (RunsFrom format workers world) (sym longer)
          (RunsFrom-more format workers world entries entry (made.answers format workers world below has) (goes.may workers below)
          (goes.answered format (world_after format world entries) (made.leads format world has)));
      chosen = λ format world has.
          answered_more format worker.number worker.picture world worker.lines line (made.chosen format world has)
          (goes.chosen (world_after format world entries) (made.leads format world has));
      leads = λ format world has.
          let P : World → Type 0 = λ w. HasWorker worker.number worker.picture opened w in
          subst P (sym (ap (world_after format world) longer ∙ world_after-more format world entries entry))
          (goes.leads format (world_after format world entries) (made.leads format world has));
    }

-- an accept that is answered by the worker's own connections
accept_goes_on : (worker : WorkerParts) (at : ℕ) (ask : Ask)
    → GoesOn worker (accepted worker.picture ask worker.number worker.opened).opened (accept_line at ask (accepted_as worker.picture ask (is_open worker.opened worker.number ask.conn)))
accept_goes_on worker at ask = record {
  may = λ workers below. below;
  answered = λ format world stands.
      ap (λ b. accepted_answer worker.picture (accepted_as worker.picture ask b)) (open_same worker.number worker.opened world.opened stands.has ask.conn)
      ∙ accept_answer worker.picture ask worker.number world.opened
      ∙ ap (λ picture. (accepted picture ask worker.number world.opened).answer) (sym stands.holds);
  chosen = λ world stands.
      ap (λ b. accepted_outcome (accepted_as worker.picture ask b)) (open_same worker.number worker.opened world.opened stands.has ask.conn)
      ∙ ap (λ picture. accepted_outcome (accepted_as picture ask (is_open world.opened worker.number ask.conn))) (sym stands.holds);
  leads = λ format world stands. record {
    holds = stands.holds;
    has = subst (λ picture. SameOpen worker.number (accepted worker.picture ask worker.number worker.opened).opened (accepted picture ask worker.number world.opened).opened) (sym stands.holds)
        (accepted_same worker.picture ask worker.number worker.opened world.opened stands.has);
  };
}

-- a close
close_goes_on : (worker : WorkerParts) (opened : List OpenMember) (at connection : ℕ)
    → SameOpen worker.number opened (closed connection worker.number worker.opened).opened
    → GoesOn worker opened (close_line at connection (closed_as (is_open worker.opened worker.number connection)))
close_goes_on worker opened at connection left = record {
  may = λ workers below. below;
  answered = λ format world stands.
      ap (λ b. closed_answer (closed_as b)) (open_same worker.number worker.opened world.opened stands.has connection)
      ∙ close_answer connection worker.number world.opened;
  chosen = λ world stands. ap (λ b. closed_outcome (closed_as b)) (open_same worker.number worker.opened world.opened stands.has connection);
  leads = λ format world stands. record {
    holds = stands.holds;
    has = λ n. left n ∙ closed_same connection worker.number worker.opened world.opened stands.has n;
  };
}

-- a worker is known by its parts
same_parts : (new worker : WorkerParts) (opened : List OpenMember) (line : BatchLine) → new.number ≡ worker.number → new.picture ≡ worker.picture
    → new.opened ≡ opened → new.lines ≡ worker.lines ++ line ∷ [] → new ≡ with_line worker opened line new.spare
same_parts new worker opened line number picture opening lines =
    λ i. record { number = number i; picture = picture i; opened = opening i; lines = lines i; spare = new.spare }

pub accept_made : (begun : List OpenMember) (old new : WorkerParts) (at : ℕ) (ask : Ask) (outcome : Accepted)
    → new.number ≡ old.number → new.picture ≡ old.picture
    → outcome ≡ accepted_as old.picture ask (is_open old.opened old.number ask.conn)
    → new.opened ≡ (accepted old.picture ask old.number old.opened).opened
    → new.lines ≡ old.lines ++ accept_line at ask outcome ∷ []
    → IsMadeFrom begun old → IsMadeFrom begun new
accept_made begun old new at ask outcome number picture answer opening lines made =
    let line = accept_line at ask (accepted_as old.picture ask (is_open old.opened old.number ask.conn)) in
    let opened = (accepted old.picture ask old.number old.opened).opened in
    subst (IsMadeFrom begun)
    (sym (same_parts new old opened line number picture opening (lines ∙ ap (λ o. old.lines ++ accept_line at ask o ∷ []) answer)))
    (made_more begun old opened line new.spare (accept_goes_on old at ask) made)

pub close_made : (begun : List OpenMember) (old new : WorkerParts) (at connection : ℕ) (outcome : Closed)
    → new.number ≡ old.number → new.picture ≡ old.picture
    → outcome ≡ closed_as (is_open old.opened old.number connection)
    → SameOpen old.number new.opened (closed connection old.number old.opened).opened
    → new.lines ≡ old.lines ++ close_line at connection outcome ∷ []
    → IsMadeFrom begun old → IsMadeFrom begun new
close_made begun old new at connection outcome number picture answer opening lines made =
    let line = close_line at connection (closed_as (is_open old.opened old.number connection)) in
    subst (IsMadeFrom begun)
    (sym (same_parts new old new.opened line number picture refl (lines ∙ ap (λ o. old.lines ++ close_line at connection o ∷ []) answer)))
    (made_more begun old new.opened line new.spare (close_goes_on old new.opened at connection opening) made)
