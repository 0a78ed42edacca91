-- The word is raised to the version that the seat has heard of.
use Rattle.std.proofs.Common.{arith}
use Rattle.ev_gate.proofs.Turning.{raises_as}
use Rattle.ev_gate.proofs.gate.Gate.raise.Goals as goal

pub fetch_max-requires : goal.fetch_max-requires
fetch_max-requires g c =
    let r = c.requires in (
      r.gate,
      (let w = c.args.self.now.sized.0 in omega arith),
      raises_as g.V.Stands.opening g.V.Stands.commits g.V.Stands.version_of c.args.self.now.table.shared.key c.args.self.now.table.shared.table_id.slots c.args.seat.id c.args.seat.me c.args.version r.version r.holds_nothing r.idle.0 r.idle.1 r.idle.2,
    )
