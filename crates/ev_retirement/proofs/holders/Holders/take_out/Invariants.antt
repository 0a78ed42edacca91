use Rattle.std.proofs.Common.{take}
use Rattle.ev_model.specs.World.{World}
use Rattle.ev_retirement.specs.Holders.{HoldsFor, without_generations}
use Rattle.ev_retirement.proofs.holders.Holders.take_out.Given as goal

abbrev pub invariant-loop-number : goal.invariant-loop-number
invariant-loop-number l = (world : World) → HoldsFor l.initial.self world → HoldsFor l.self (without_generations (take l.number-index l.numbers) world)
