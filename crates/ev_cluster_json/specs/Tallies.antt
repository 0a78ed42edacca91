-- What a tally gains over hosts or groups of them.
use Rattle.std.specs.Prelude.{◌≡◌, ◌++◌, List}
use Rattle.std.specs.List.{flat_map}
use Rattle.serde_json.specs.Data.{Data}
use Rattle.ev_types.specs.Hosts.{HostRowParts}
use Rattle.ev_tree.specs.declared.broken.BrokenRules.{BrokenRules}
use Rattle.ev_tree.specs.Broken.{either_broken, any_broken}
use Rattle.ev_cluster_json.specs.declared.tally.Tally.{Tally}

-- a tally has gained rows, and breaks what it broke and what is said
pub record Gains (old new : Tally) (more_broken : BrokenRules) (more : List HostRowParts) : Type 0 where
  pub broken : new.broken ≡ either_broken old.broken more_broken
  pub rows : new.rows.items ≡ old.rows.items ++ more

-- a tally has gained what is made of a tree, and what the tree breaks
abbrev pub GainsOne : (Data → BrokenRules) → (Data → List HostRowParts) → Tally → Tally → Data → Type 0
GainsOne broken_of rows_of old new tree = Gains old new (broken_of tree) (rows_of tree)

-- the same of each of these trees
abbrev pub GainsAll : (Data → BrokenRules) → (Data → List HostRowParts) → Tally → Tally → List Data → Type 0
GainsAll broken_of rows_of old new trees = Gains old new (any_broken broken_of trees) (flat_map rows_of trees)
