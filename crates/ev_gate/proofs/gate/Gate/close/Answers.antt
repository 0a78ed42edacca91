-- The history is whole.
use Rattle.std.proofs.Common.{refl}
use Rattle.ev_gate.proofs.Gathering.{whole}
use Rattle.ev_gate.proofs.gate.Gate.close.Goals as goal

pub returns-clause-history : goal.returns-clause-history
returns-clause-history g c = whole _ _ c.args.passes.items c.requires g.V.Stands.opening g.V.Stands.commits c.args.self.table.shared.key c.join_seats-leader.result c.take_out.result refl c.join_seats-leader.ensures c.take_out.ensures
