use Rattle.std.proofs.Common.{refl}
use Rattle.std.specs.Arc.{arc_value}
use Rattle.ev_actors.proofs.SettleLemmas.{settles}
use Rattle.ev_commits.proofs.TurnLemmas.{settles_once}
use Rattle.ev_commits.proofs.acts.settle_in.Goals as goal

pub returns-clause-settled : goal.returns-clause-settled
returns-clause-settled g c =
    settles (g.J.Journaled.shows c.args.kept.now.journaled) (g.J.Journaled.shows c.apply_batch-settled.new.self) c.args.worker.now c.args.worker.now c.adopt.new.self
    c.args.at c.args.step c.args.worker.now.spare c.in_ok-settled.field-0.closed c.in_ok-settled.field-0.moved (arc_value c.in_ok-settled.field-0.snapshot)
    refl (c.requires.works c.journal.ensures.run) c.requires.within c.in_ok-settled.ensures.entries c.in_ok-settled.ensures.told
    c.adopt.ensures.number c.adopt.ensures.lines c.adopt.ensures.begins c.adopt.ensures.world

pub returns-clause-committed : goal.returns-clause-committed
returns-clause-committed g c =
    settles_once c.args.at c.args.step (g.J.Journaled.shows c.args.kept.now.journaled) (g.J.Journaled.shows c.apply_batch-settled.new.self) c.args.worker.now c.adopt.new.self
    c.journal.ensures.run (c.requires.works c.journal.ensures.run)
    (settles (g.J.Journaled.shows c.args.kept.now.journaled) (g.J.Journaled.shows c.apply_batch-settled.new.self) c.args.worker.now c.args.worker.now c.adopt.new.self
    c.args.at c.args.step c.args.worker.now.spare c.in_ok-settled.field-0.closed c.in_ok-settled.field-0.moved (arc_value c.in_ok-settled.field-0.snapshot)
    refl (c.requires.works c.journal.ensures.run) c.requires.within c.in_ok-settled.ensures.entries c.in_ok-settled.ensures.told
    c.adopt.ensures.number c.adopt.ensures.lines c.adopt.ensures.begins c.adopt.ensures.world)
