use Rattle.std.proofs.Common.{◌≡◌, ◌<◌, ℕ, List, length, get_or, sym, ap, subst}
use Rattle.ev_worker.specs.Workers.{WorkerParts}
use Rattle.std.specs.Prelude.{slice_set}
use Rattle.std.proofs.lemmas.Result.{IfOk-weaker}
use Rattle.ev_types.specs.Events.{MayMake}
use Rattle.ev_types.specs.declared.events.Actor.TheVariants.{Worker}
use Rattle.ev_types.specs.declared.events.Line.{Line}
use Rattle.ev_actors.specs.Taken.{HasWorked, IsTaken}
use Rattle.ev_actors.proofs.LineLemmas.{worker_below}
use Rattle.ev_actors.proofs.WaitingLemmas.{takes_worker}
use Rattle.ev_actors.proofs.steps.take_line.Goals as goal

within : (workers number count : ℕ) (line : Line) → line.actor ≡ Worker number → MayMake workers line.actor line.event → count ≡ workers → number < count
within workers number count line own may same =
    subst (λ n. number < n) (sym same) (worker_below workers number line.event (subst (λ a. MayMake workers a line.event) own may))

pub returns-in-Worker-clause-taken : goal.returns-in-Worker-clause-taken
returns-in-Worker-clause-taken g c =
    let workers : List WorkerParts = c.args.workers.now in
    let old : WorkerParts = get_or workers c.in-Worker.number c.index-workers-number.result in
    IfOk-weaker c.worker_line.result
    (λ u. HasWorked c.args.line.now (g.R.Journaled.shows c.args.journaled.now) (g.R.Journaled.shows c.worker_line.new.journaled) old c.worker_line.new.worker)
    (λ u. IsTaken c.args.auto c.args.line.now (g.R.Journaled.shows c.args.journaled.now) (g.R.Journaled.shows c.worker_line.new.journaled) workers (slice_set workers c.in-Worker.number c.worker_line.new.worker))
    (λ u worked.
    takes_worker c.args.auto c.args.line.now (g.R.Journaled.shows c.args.journaled.now) (g.R.Journaled.shows c.worker_line.new.journaled) workers c.in-Worker.number
    old c.worker_line.new.worker
    (within (g.R.Journaled.shows c.args.journaled.now).workers c.in-Worker.number (length workers) c.args.line.now c.in-Worker.is c.requires.allowed c.requires.count)
    (ap (λ (d : WorkerParts). get_or workers c.in-Worker.number d) c.index-workers-number.is) c.requires.working c.in-Worker.is worked)
    c.worker_line.ensures.worked
