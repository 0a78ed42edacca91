-- The text of trees, a line each.
use Rattle.std.specs.Prelude.{◌≡◌, ℕ, ◌≤◌, List, map, length, Some, All}
use Rattle.std.specs.List.{flat_map}
use Rattle.serde_json.specs.Data.{Data, depth}
use Rattle.serde_json.specs.Read.{max_depth}
use Rattle.serde_json.specs.Written.{compact_text}
use Rattle.ev_io.specs.declared.limits.TheConstants.{MAX_LINE_BYTES, MAX_LINES, MAX_INPUT_BYTES}
use Rattle.ev_io.specs.Lines.{lines_of}
use Rattle.ev_io.specs.LineFaults.{IsSoundUpTo}
use Rattle.ev_journal.specs.Rendering.{line_text}
use Rattle.ev_script.specs.Members.{tree_of}

-- the text of trees: a line each
abbrev pub text_of_trees : List Data → List ℕ
text_of_trees trees = flat_map line_text trees

-- what is written of the tree is read as it
abbrev pub ReadsBack : Data → Type 0
ReadsBack tree = tree_of (compact_text tree) ≡ Some tree

-- arrays and objects nest no deeper than a reader goes
abbrev pub IsReadable : Data → Type 0
IsReadable tree = depth tree ≤ max_depth

-- the lines of the text of trees are the texts of the trees
abbrev pub LinesOfTrees : Type 0
LinesOfTrees = (trees : List Data) → lines_of (text_of_trees trees) ≡ map compact_text trees

-- the text of these trees is within the limits of inputs:
-- no line is too long, and there are not too many lines or bytes
pub record AreWithinLimits (trees : List Data) : Type 0 where
  pub short : All (λ tree. length (compact_text tree) ≤ MAX_LINE_BYTES) trees
  pub few : length trees ≤ MAX_LINES
  pub small : length (text_of_trees trees) ≤ MAX_INPUT_BYTES

-- so no fault of the limits is in it
abbrev pub StaysWithinLimits : Type 0
StaysWithinLimits = (trees : List Data) → AreWithinLimits trees → IsSoundUpTo (text_of_trees trees) (length (text_of_trees trees))
