use Rattle.std.proofs.Common.{◌≡◌, ◌++◌, drop}
use Rattle.std.specs.Prelude.{filter_map}
use Rattle.ev_model.specs.Origins.{placed_from}
use Rattle.ev_warming.specs.Chains.{kept_by}
use Rattle.ev_warming.proofs.chains.kept_matched.Given as goal

abbrev pub invariant-loop-chain : goal.invariant-loop-chain
invariant-loop-chain l =
    l.kept.items ++ filter_map (kept_by l.origins) (placed_from l.place (drop l.chain-index l.chains))
    ≡ filter_map (kept_by l.origins) (placed_from 0 l.chains)
