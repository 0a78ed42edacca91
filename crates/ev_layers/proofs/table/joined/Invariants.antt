use Rattle.std.proofs.Common.{◌≡◌, ◌++◌, ◌∷◌, drop}
use Rattle.ev_layers.specs.Layers.{entry_in}
use Rattle.ev_layers.proofs.table.joined.Given as goal

abbrev pub invariant-loop-layer : goal.invariant-loop-layer
invariant-loop-layer g l =
    (key : g.row.K.Denot) → entry_in (g.K.PartialEq.eq key) (l.top ∷ l.left ++ drop l.layer-index l.layers) ≡ entry_in (g.K.PartialEq.eq key) (l.over ∷ l.layers)
