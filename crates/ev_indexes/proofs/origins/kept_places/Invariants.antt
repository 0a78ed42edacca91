use Rattle.std.proofs.Common.{take}
use Rattle.ev_indexes.specs.Origins.{AreKept}
use Rattle.ev_indexes.proofs.origins.kept_places.Given as goal

abbrev pub invariant-loop-chain : goal.invariant-loop-chain
invariant-loop-chain l = AreKept (take l.chain-index l.kept) l.places
