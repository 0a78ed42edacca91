use Rattle.std.proofs.Common.{◌≡◌, ◌++◌, List}
use Rattle.std.specs.Map.{lookup}
use Rattle.std.specs.Option.{option_or}
use Rattle.indexmap.specs.IndexMap.{get}
use Rattle.ev_layers.proofs.table.put_below.Given as goal

abbrev pub invariant-loop-key : goal.invariant-loop-key
invariant-loop-key g l =
    (done : List (g.row.K.Denot × g.row.V.Denot)) × (done ++ l.key-iterator ≡ l.older.entries)
    × ((key : g.row.K.Denot) → get g.K.PartialEq.eq l.map key ≡ option_or (get g.K.PartialEq.eq l.fn.map key) (lookup (g.K.PartialEq.eq key) done))
