use Rattle.std.specs.Arc.{arc_value}
use Rattle.ev_actors.proofs.SettleLemmas.{settles}
use Rattle.ev_actors.proofs.steps.settle.Goals as goal

pub returns-clause-settled : goal.returns-clause-settled
returns-clause-settled g c =
    settles (g.R.Journaled.shows c.args.journaled.now) (g.R.Journaled.shows c.apply_batch.new.self) c.args.worker.now c.prepare.new.self c.adopt.new.self
    c.args.at c.args.step c.prepare.new.self.spare c.in_ok-settled.settled.closed c.in_ok-settled.settled.moved (arc_value c.in_ok-settled.settled.snapshot)
    c.prepare.ensures.kept c.requires.works c.requires.within c.in_ok-settled.ensures.entries c.in_ok-settled.ensures.told
    c.adopt.ensures.number c.adopt.ensures.lines c.adopt.ensures.begins c.adopt.ensures.world
