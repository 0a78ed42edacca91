-- The text of the incremental script that says what a script of the state of the world says.
use Rattle.std.specs.Prelude.{◌≡◌, ℕ, ◌+◌, ◌<◌, ◌≤◌, List, [], ◌∷◌, ◌++◌, map, take, length, All, ⊤}
use Rattle.serde_json.specs.Data.{Data}
use Rattle.serde_json.specs.View.{view}
use Rattle.ev_types.specs.Scripts.{ScriptParts}
use Rattle.ev_script.specs.declared.trees.ScriptTrees.{ScriptTrees}
use Rattle.ev_script.specs.ReadScript.{script_made}
use Rattle.ev_expand.specs.Room.{IsTextSoFar}
use Rattle.ev_expand.specs.declared.text_so_far.TextSoFar.{TextSoFar}
use Rattle.ev_tree.specs.Floats.{whole}
use Rattle.ev_trees.specs.Trees.{ReadsBack, IsReadable, AreWithinLimits}
use Rattle.ev_expand.specs.Said.{lines_in, lines_said}
use Rattle.ev_sotw.specs.Deltas.{deltas_of}
use Rattle.ev_sotw_delta.specs.declared.outcome.DeltaError.{DeltaError}
use Rattle.ev_sotw_delta.specs.declared.outcome.DeltaError.TheVariants.{Large, OutOfMemory}

-- ---- what is written

-- the trees that are written: the header's, and what the lines become, with -1 for each float
abbrev pub written_of : ScriptTrees → List Data
written_of trees = map whole (view trees.head ∷ deltas_of trees.header.profile (lines_in trees))

-- the script that is written
abbrev pub delta_script : ScriptTrees → ScriptParts
delta_script trees = script_made trees.header (lines_said trees.header.profile 2 (deltas_of trees.header.profile (lines_in trees)))

-- ---- limits

-- the trees make an input: none nests deeper than a reader goes, and their text is within the limits of inputs
pub record FitsInput (trees : List Data) : Type 0 where
  pub readable : All IsReadable trees
  pub limits : AreWithinLimits trees

-- the first line with which the trees make none
pub record IsFirstTooLarge (trees : List Data) (line : ℕ) : Type 0 where
  pub within : line ≤ length trees
  pub large : ¬ (FitsInput (take line trees))
  pub before : (other : ℕ) → other < line → FitsInput (take other trees)

-- why nothing is written of these trees
abbrev pub IsRefusal : List Data → DeltaError → Type 0
IsRefusal trees (Large line) = IsFirstTooLarge trees line
IsRefusal trees OutOfMemory = ⊤

-- ---- the text so far

-- the text is that of these trees, which make an input, and are read back
pub record IsWritten (trees : List Data) (text : TextSoFar) : Type 0 where
  pub text_is : IsTextSoFar trees text
  pub fits : FitsInput trees
  pub read_back : All ReadsBack trees

-- a tree is written after those that were
abbrev pub WritesOn : Data → TextSoFar → TextSoFar → Type 0
WritesOn tree before after = (trees : List Data) → IsWritten trees before → IsWritten (trees ++ tree ∷ []) after

-- why a tree isn't written after these: with it they make no input
abbrev pub IsTooLarge : List Data → Data → DeltaError → Type 0
IsTooLarge trees tree (Large line) = (line ≡ length trees + 1) × (¬ (FitsInput (trees ++ tree ∷ [])))
IsTooLarge trees tree OutOfMemory = ⊤

-- why a tree isn't written after a text
abbrev pub IsTooLargeFor : TextSoFar → Data → DeltaError → Type 0
IsTooLargeFor text tree error = (trees : List Data) → IsWritten trees text → IsTooLarge trees tree error
