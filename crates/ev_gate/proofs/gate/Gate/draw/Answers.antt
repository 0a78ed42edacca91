-- A ticket is drawn.
use Rattle.std.proofs.Common.{arith}
use Rattle.ev_gate.proofs.Turning.{draws_as}
use Rattle.ev_gate.proofs.gate.Gate.draw.Goals as goal

pub fetch_add-requires : goal.fetch_add-requires
fetch_add-requires g c =
    let s = c.args.seat.now in (
      c.requires.gate,
      (let w = c.args.self.now.sized.0 in omega arith),
      draws_as g.V.Stands.opening g.V.Stands.commits g.V.Stands.version_of c.args.self.now.table.shared.key c.args.self.now.table.shared.table_id.slots s.id s.me g.K.FirstValue.first c.requires.first c.requires.holds_nothing c.requires.idle.0 c.requires.idle.1 c.requires.idle.2,
    )
