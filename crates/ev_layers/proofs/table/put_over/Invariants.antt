use Rattle.std.proofs.Common.{◌≡◌, ◌++◌, List, Option}
use Rattle.std.specs.Map.{lookup}
use Rattle.indexmap.specs.IndexMap.{get}
use Rattle.ev_layers.specs.Layers.{over_base}
use Rattle.ev_layers.proofs.table.put_over.Given as goal

abbrev pub invariant-loop-key : goal.invariant-loop-key
invariant-loop-key g l =
    (done : List (g.row.K.Denot × Option g.row.V.Denot)) × (done ++ l.key-iterator ≡ l.over.entries)
    × ((key : g.row.K.Denot) → get g.K.PartialEq.eq l.base key ≡ over_base (lookup (g.K.PartialEq.eq key) done) (get g.K.PartialEq.eq l.fn.base key))
