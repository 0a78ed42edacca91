use Rattle.std.proofs.Common.{◌≡◌, ◌++◌, take}
use Rattle.std.specs.List.{flat_map}
use Rattle.ev_snapshot.specs.Touched.{begun_at}
use Rattle.ev_snapshot.proofs.differences.push_chains_begun.Given as goal

abbrev pub invariant-loop-chain : goal.invariant-loop-chain
invariant-loop-chain l = l.numbers.items ≡ l.initial.numbers.items ++ flat_map (begun_at l.before.shown) (take l.chain-index l.chains)
