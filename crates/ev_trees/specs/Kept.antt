-- The tree that is kept for later.
use Rattle.serde_json.specs.Data.{Data}
use Rattle.serde_json.specs.View.{view}
use Rattle.ev_script.specs.Members.{tree_told}
use Rattle.ev_trees.specs.declared.kept_tree.KeptTree.{KeptTree}
use Rattle.ev_trees.specs.declared.kept_tree.KeptTree.TheVariants.{Text, Deep}

-- the tree that is kept
abbrev pub kept_shown : KeptTree → Data
kept_shown (Text text) = tree_told text
kept_shown (Deep tree) = view tree
