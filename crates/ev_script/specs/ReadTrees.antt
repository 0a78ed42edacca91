-- What a reader of the trees of a script's lines answers.
use Rattle.std.specs.Prelude.{◌≡◌, ℕ, ◌+◌, ◌<◌, List, [], length, slice_index_or, Some, Result, Ok, Err}
use Rattle.serde_json.specs.Data.{Data}
use Rattle.serde_json.specs.View.{view}
use Rattle.ev_types.specs.declared.events.Profile.{Profile}
use Rattle.ev_io.specs.Lines.{lines_of}
use Rattle.ev_io.specs.declared.faults.ScriptFault.{ScriptFault}
use Rattle.ev_script.specs.declared.trees.HeadTree.{HeadTree}
use Rattle.ev_script.specs.declared.trees.ScriptTrees.{ScriptTrees}
use Rattle.ev_script.specs.Members.{tree_of, tree_told}
use Rattle.ev_script.specs.Header.{header_of}
use Rattle.ev_script.specs.Faults.{LineForms, Input}
use Rattle.ev_script.specs.ReadInput.{IsTold, IsWhole}

-- the tree is that of a header, and this is the header
abbrev pub IsTreeHead : Data → HeadTree → Type 0
IsTreeHead tree head = (view head.tree ≡ tree) × (header_of tree ≡ Some head.header)

-- what is kept of the first line is its tree and its header
abbrev pub KeepsHeads : (Data → HeadTree → Type 0) → Type 0
KeepsHeads keeps = (tree : Data) (head : HeadTree) → keeps tree head → IsTreeHead tree head

-- what is kept of another line is its tree, as a text
abbrev pub KeepsTrees : (Profile → ℕ → Data → List ℕ → Type 0) → Type 0
KeepsTrees keeps = (profile : Profile) (at : ℕ) (tree : Data) (kept : List ℕ) → keeps profile at tree kept → tree_told kept ≡ tree

-- the text is that of this tree
abbrev pub IsTreeOf : List ℕ → Data → Type 0
IsTreeOf text tree = tree_of text ≡ Some tree

-- the trees of these lines: the header's, which says this, and those of the lines after it, in order
pub record AreTrees (texts : List (List ℕ)) (trees : ScriptTrees) : Type 0 where
  pub head : IsTreeOf (slice_index_or texts 0 []) (view trees.head)
  pub header : header_of (view trees.head) ≡ Some trees.header
  pub lines : (i : ℕ) (other : List ℕ) → i < length trees.lines.items → IsTreeOf (slice_index_or texts (i + 1) []) (tree_told (slice_index_or trees.lines.items i other))

-- what an answer means: the trees of all lines of an input without fault, or the first fault of the bytes taken
abbrev pub IsTreesAnswer : LineForms → Input → Result ScriptTrees ScriptFault → Type 0
IsTreesAnswer forms input (Ok trees) = IsWhole forms input (length trees.lines.items + 1) × AreTrees (lines_of input.bytes) trees
IsTreesAnswer forms input (Err fault) = IsTold forms input fault
