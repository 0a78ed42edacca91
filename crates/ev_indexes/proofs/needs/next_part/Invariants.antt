use Rattle.std.proofs.Common.{◌≡◌, length}
use Rattle.std.specs.List.{flat_map}
use Rattle.ev_model.specs.Watching.{chain_dependencies}
use Rattle.ev_indexes.proofs.needs.next_part.Given as goal

abbrev pub invariant-loop-chain : goal.invariant-loop-chain
invariant-loop-chain l = flat_map chain_dependencies l.chains.now ≡ flat_map chain_dependencies l.initial.chains.now

abbrev pub decreases-loop-chain : goal.decreases-loop-chain
decreases-loop-chain l = length l.chains.now
