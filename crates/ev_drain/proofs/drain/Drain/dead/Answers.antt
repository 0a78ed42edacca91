use Rattle.std.proofs.Common.{ap, ◌∙◌}
use Rattle.std.proofs.lemmas.Result.{IfOk-weaker}
use Rattle.ev_drain.specs.Retired.{dead_of}
use Rattle.ev_drain.proofs.RowLemmas.{dead_rows}
use Rattle.ev_drain.proofs.WorldLemmas.{dead_stands}
use Rattle.ev_drain.proofs.drain.Drain.dead.Goals as goal

by_rows : goal.returns-clause-dead
by_rows g c =
    IfOk-weaker c.dead_notes.result _ _
    (λ dead is. is
    ∙ dead_rows c.args.format (g.S.Shows.has c.args.shown.now) c.args.ledger.now c.self.inside.notes.entries
    ∙ ap (dead_of c.args.format (g.S.Shows.has c.args.shown.now) c.args.ledger.now) c.self.view_is) c.dead_notes.ensures

pub returns-clause-dead : goal.returns-clause-dead
returns-clause-dead g c = by_rows g c

pub returns-clause-world : goal.returns-clause-world
returns-clause-world g c =
    IfOk-weaker c.dead_notes.result _ _
    (λ dead is world stands holds shows. is
    ∙ dead_stands c.args.format (g.S.Shows.has c.args.shown.now) c.args.self.now c.args.ledger.now world stands holds shows) (by_rows g c)
