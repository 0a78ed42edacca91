use Rattle.std.proofs.Common.{◌≡◌, true, false, ap, sym, ◌∙◌, subst}
use Rattle.std.specs.Prelude.{OnOk}
use Rattle.ev_types.specs.declared.events.Actor.TheVariants.{Worker}
use Rattle.ev_model.specs.Runs.{is_batched}
use Rattle.ev_model.specs.Operations.{line_operation}
use Rattle.ev_worker.specs.Workers.{WorkerParts}
use Rattle.ev_actors.specs.Journals.{JournalParts}
use Rattle.ev_commits.specs.Seen.{seen_by}
use Rattle.ev_run.specs.Acting.{GoesThrough}
use Rattle.ev_run.proofs.WorkerLemmas.{joined_goes, line_settles, settle_line}
use Rattle.ev_run.proofs.workers.work_line.Goals as goal

pub returns-in-Ok-true-clause-through : goal.returns-in-Ok-true-clause-through
returns-in-Ok-true-clause-through g c =
    let before : JournalParts = seen_by g.J.Journaled.shows c.args.gate.now c.args.pass in
    let batched : is_batched c.args.line.now.event ≡ true = sym c.in-Ok-true.ensures.answer ∙ c.in-Ok-true.field-0-test in
    joined_goes c.args.script.now c.args.line.now before c.args.worker.now c.join.new.worker c.requires.own batched (c.in-Ok-true.ensures.joined batched)

pub returns-in-Ok-false-clause-through : goal.returns-in-Ok-false-clause-through
returns-in-Ok-false-clause-through g c =
    let before : JournalParts = seen_by g.J.Journaled.shows c.args.gate.now c.args.pass in
    let after : JournalParts = seen_by g.J.Journaled.shows c.args.gate.now c.settle_at.result.0 in
    let other : is_batched c.args.line.now.event ≡ false = sym c.in-Ok-false.ensures.answer ∙ c.in-Ok-false.field-0-test in
    let same : c.join.new.worker ≡ c.args.worker.now = c.join.ensures.other other in
    subst (λ (w : WorkerParts). OnOk c.settle_at.result.1 (GoesThrough c.args.script.now (line_operation c.args.line.now) before after w c.settle_at.new.worker)) same
    (subst (λ o. OnOk c.settle_at.result.1 (GoesThrough c.args.script.now o before after c.join.new.worker c.settle_at.new.worker))
    (settle_line c.join.new.worker c.args.line.now (c.requires.own ∙ ap (λ (w : WorkerParts). Worker w.number) (sym same))
    (line_settles c.args.script.now.workers c.args.worker.now.number c.args.line.now c.requires.own c.requires.allowed other))
    c.settle_at.ensures.through)
