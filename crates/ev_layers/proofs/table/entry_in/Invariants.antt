use Rattle.std.proofs.Common.{◌≡◌, drop}
use Rattle.ev_layers.specs.Layers.{entry_in}
use Rattle.ev_layers.proofs.table.entry_in.Given as goal

abbrev pub invariant-loop-layer : goal.invariant-loop-layer
invariant-loop-layer g l =
    entry_in (g.Q.Equivalent.equivalent l.key) l.layers ≡ entry_in (g.Q.Equivalent.equivalent l.key) (drop l.layer-index l.layers)
