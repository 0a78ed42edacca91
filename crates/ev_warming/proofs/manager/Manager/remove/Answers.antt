use Rattle.ev_warming.proofs.RemovalLemmas.{kept-without, stands-without}
use Rattle.ev_warming.proofs.manager.Manager.remove.Goals as goal

pub returns-clause-kept : goal.returns-clause-kept
returns-clause-kept c =
    kept-without c.args.self.now c.args.number c.requires.kept c.requires.forgotten c.requires.over c.remove.new.self c.remove.ensures.rows c.remove.ensures.made

pub returns-clause-stands : goal.returns-clause-stands
returns-clause-stands c =
    stands-without c.args.self.now c.args.number c.requires.kept c.requires.forgotten c.requires.over c.remove.new.self c.remove.ensures.rows c.remove.ensures.made
