use Rattle.std.proofs.Common.{◌≡◌, ◌++◌, map, drop}
use Rattle.ev_model.specs.Origins.{placed_from}
use Rattle.ev_indexes.specs.Reads.{chain_in}
use Rattle.ev_indexes.proofs.routings.chains.Given as goal

abbrev pub invariant-loop-given : goal.invariant-loop-given
invariant-loop-given l =
    l.served.items ++ map (chain_in l.watches l.row) (placed_from l.place (drop l.given-index l.chains))
    ≡ map (chain_in l.watches l.row) (placed_from 0 l.chains)
