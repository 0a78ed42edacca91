-- The turn ends with what was written.
use Rattle.std.proofs.Common.{refl}
use Rattle.ev_gate.proofs.Lending.{turn_same}
use Rattle.ev_gate.proofs.gate.Turn.value.Goals as goal

pub returns : goal.returns
returns g c = let t = c.args.self.now in ((refl, λ w. turn_same t.gate t.seat w _ _ _ _ _ _ _ _), record { writes_back = tt; value = refl })
