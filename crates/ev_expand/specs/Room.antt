-- The text that was written so far, and whether another line has room in it.
use Rattle.std.specs.Prelude.{◌≡◌, ℕ, ◌+◌, ◌<◌, ◌≤◌, List, length}
use Rattle.serde_json.specs.Data.{Data}
use Rattle.ev_io.specs.declared.limits.TheConstants.{MAX_LINE_BYTES, MAX_LINES, MAX_INPUT_BYTES}
use Rattle.ev_trees.specs.Trees.{text_of_trees, AreWithinLimits}
use Rattle.ev_expand.specs.declared.text_so_far.TextSoFar.{TextSoFar}

-- after this many bytes and lines there is room for a line of this length, its line feed counted
pub record HasRoom (bytes lines line : ℕ) : Type 0 where
  pub short : line ≤ MAX_LINE_BYTES + 1
  pub few : lines < MAX_LINES
  pub small : bytes + line ≤ MAX_INPUT_BYTES

-- the text is that of these trees, which are within the limits, and their number is counted
pub record IsTextSoFar (trees : List Data) (text : TextSoFar) : Type 0 where
  pub bytes : text.bytes.items ≡ text_of_trees trees
  pub lines : text.lines ≡ length trees
  pub limits : AreWithinLimits trees

-- two texts have the same lines, whatever memory they hold for more
pub record IsSameText (before after : TextSoFar) : Type 0 where
  pub bytes : after.bytes.items ≡ before.bytes.items
  pub lines : after.lines ≡ before.lines
