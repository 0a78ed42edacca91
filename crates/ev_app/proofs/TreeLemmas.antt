-- Bytes have the same trees in each reading, and what the reader of trees answers.
use Rattle.std.proofs.Common.{◌≡◌, ℕ, suc, ◌+◌, ◌<◌, true, false, IsTrue, List, [], ◌∷◌, map, length, Option, None, Some, Result, Ok, Err, refl, sym, ap, ap₂, subst, ◌∙◌, arith, slice_index_or}
use Rattle.std.specs.Io.KnownBytes.{IsAtEnd}
use Rattle.serde_json.specs.Data.{Data}
use Rattle.serde_json.specs.View.{view}
use Rattle.ev_io.specs.Lines.{lines_of}
use Rattle.ev_io.specs.LinesState.{LinesState, HasTaken, IsWithin}
use Rattle.ev_io.specs.Outside.{Takes}
use Rattle.ev_io.specs.declared.faults.ScriptFault.{ScriptFault}
use Rattle.ev_io.specs.declared.faults.ScriptFault.TheVariants.{OutOfMemory as lacks_memory}
use Rattle.ev_script.specs.declared.header.Header.{Header}
use Rattle.ev_script.specs.declared.trees.ScriptTrees.{ScriptTrees}
use Rattle.ev_script.specs.Faults.{Input, LineForms}
use Rattle.ev_script.specs.Header.{header_of}
use Rattle.ev_script.specs.Members.{tree_of, tree_told}
use Rattle.ev_script.specs.ReadInput.{input_of}
use Rattle.ev_script.specs.ReadTrees.{IsTreesAnswer}
use Rattle.ev_expand.specs.Said.{lines_in, input_of_text}
use Rattle.ev_app.specs.Trees.{AreTreesOf, ReadsTrees}
use Rattle.ev_app.proofs.InputLemmas.{taken_input, no_byte}

-- ---- bytes have the same trees in each reading

-- texts of one number that are the same trees, each by each
same_trees : (xs ys : List (List ℕ)) → length xs ≡ length ys → ((i : ℕ) (other : List ℕ) → i < length xs → tree_told (slice_index_or xs i other) ≡ tree_told (slice_index_or ys i other)) → map tree_told xs ≡ map tree_told ys
same_trees [] [] long each = refl
same_trees [] (y ∷ ys) long each = absurd (omega (arith, long))
same_trees (x ∷ xs) [] long each = absurd (omega (arith, long))
same_trees (x ∷ xs) (y ∷ ys) long each =
    ap₂ (λ (d : Data) ds. d ∷ ds) (each 0 x (omega arith)) (same_trees xs ys (omega (arith, long)) (λ i other less. each (suc i) other (omega (arith, less))))

abbrev tree_in : Data → Option Data → Data
tree_in tree None = tree
tree_in tree (Some found) = found

-- a text has one tree
one_tree : (text : List ℕ) (a b : Data) → tree_of text ≡ Some a → tree_of text ≡ Some b → a ≡ b
one_tree text a b first second = ap (tree_in a) (sym first ∙ second)

pub same_heads : (forms : LineForms) (bytes : List ℕ) (trees others : ScriptTrees) → AreTreesOf forms bytes trees → AreTreesOf forms bytes others → view trees.head ≡ view others.head
same_heads forms bytes trees others one two = one_tree (slice_index_or (lines_of bytes) 0 []) (view trees.head) (view others.head) one.1.head two.1.head

abbrev header_in : Header → Option Header → Header
header_in header None = header
header_in header (Some found) = found

pub same_headers : (forms : LineForms) (bytes : List ℕ) (trees others : ScriptTrees) → AreTreesOf forms bytes trees → AreTreesOf forms bytes others → trees.header ≡ others.header
same_headers forms bytes trees others one two =
    ap (header_in trees.header) (sym one.1.header ∙ ap header_of (same_heads forms bytes trees others one two) ∙ two.1.header)

pub same_lines : (forms : LineForms) (bytes : List ℕ) (trees others : ScriptTrees) → AreTreesOf forms bytes trees → AreTreesOf forms bytes others → lines_in trees ≡ lines_in others
same_lines forms bytes trees others one two =
    let long : length trees.lines.items ≡ length others.lines.items = omega (arith, one.0.lines, two.0.lines) in
    same_trees trees.lines.items others.lines.items long
    (λ i other less. one_tree (slice_index_or (lines_of bytes) (i + 1) []) (tree_told (slice_index_or trees.lines.items i other)) (tree_told (slice_index_or others.lines.items i other))
    (one.1.lines i other less) (two.1.lines i other (omega (arith, less, long))))

-- ---- readings

-- what the reader of trees ensures
abbrev pub Reads : LineForms → Option (List ℕ) → Option (List ℕ) → LinesState → Result ScriptTrees ScriptFault → Type 0
Reads forms before after state result = (bytes : List ℕ) × Takes before after bytes × HasTaken state bytes × IsTreesAnswer forms (input_of false state bytes) result

pub reads_trees : (forms : LineForms) (before after : Option (List ℕ)) (state : LinesState) (result : Result ScriptTrees ScriptFault) → IsWithin state
    → (IsTrue state.ended → IsAtEnd after) → Reads forms before after state result → ReadsTrees forms before after result
reads_trees forms before after state result within ended read = record {
  input = input_of false state read.0;
  takes = taken_input before after state read.0 read.1 read.2 within ended;
  is = read.3;
}

-- nothing was taken
pub reads_no_tree : (forms : LineForms) (left : Option (List ℕ)) → ReadsTrees forms left left (Err lacks_memory)
reads_no_tree forms left = record {
  input = record { bytes = []; ended = false; audit = false };
  takes = record { asked = refl; taken = no_byte left; at_most = omega arith; ended = λ no. let f : false ≡ true = no in cc };
  is = tt;
}

-- an input that was read whole is a text
is_text : (input : Input) → input.audit ≡ false → IsTrue input.ended → input ≡ input_of_text input.bytes
is_text input audit ended = λ i. record { bytes = input.bytes; ended = ended i; audit = audit i }

pub whole_trees : (forms : LineForms) (input : Input) (trees : ScriptTrees) → IsTreesAnswer forms input (Ok trees) → AreTreesOf forms input.bytes trees
whole_trees forms input trees read = subst (λ (x : Input). IsTreesAnswer forms x (Ok trees)) (is_text input read.0.script read.0.ended) read
