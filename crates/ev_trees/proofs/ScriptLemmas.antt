-- Trees that are a script's lines are a script when they are written.
use Rattle.std.proofs.Common.{◌≡◌, ℕ, zero, suc, ◌+◌, ◌<◌, true, false, List, [], ◌∷◌, length, map, get_or, Some, option_map, option_and_then, refl, sym, ap, subst, ◌∙◌, arith}
use Rattle.std.proofs.lemmas.List.{length-map, get_or-map}
use Rattle.serde_json.specs.Data.{Data, null}
use Rattle.serde_json.specs.Written.{compact_text}
use Rattle.ev_io.specs.Lines.{lines_of}
use Rattle.ev_types.specs.declared.events.Actor.TheVariants.{Stream}
use Rattle.ev_types.specs.declared.events.Event.TheVariants.{Connect}
use Rattle.ev_types.specs.declared.events.Line.{Line}
use Rattle.ev_script.specs.declared.header.Header.{Header}
use Rattle.ev_script.specs.Header.{header_of, settings_of}
use Rattle.ev_script.specs.Members.{tree_of}
use Rattle.ev_script.specs.Lines.{line_of}
use Rattle.ev_script.specs.Content.{first_of, first_tree, IsLineOf}
use Rattle.ev_script.specs.Faults.{worker_of, plain_lines, index_at}
use Rattle.ev_script.specs.ReadLines.{AreRead, AreLinesKept}
use Rattle.ev_script.specs.ReadScript.{IsHeaderOf}
use Rattle.ev_script.proofs.FirstLemmas.{no_fault}
use Rattle.ev_script.proofs.PlaceLemmas.{ends_within}
use Rattle.ev_script.proofs.ScriptLemmas.{IsLine, keeps_plain, whole_script}
use Rattle.ev_trees.specs.Trees.{text_of_trees, ReadsBack}
use Rattle.ev_trees.specs.Scripts.{AreScript, input_of_trees, TreesAreScript}
use Rattle.ev_trees.proofs.LineLemmas.{lines_are}
use Rattle.ev_trees.proofs.LimitLemmas.{limits_stay}

-- the texts of the lines
abbrev texts_of : Data → List Data → List (List ℕ)
texts_of head trees = map compact_text (head ∷ trees)

some_line : Line
some_line = record { at = 0; actor = Stream; event = Connect }

next_is : (i : ℕ) → i + 1 ≡ suc i
next_is i = omega arith

-- the tree of a line after the first
tree_behind : (header : Header) (lines : List Line) (head : Data) (trees : List Data) → AreScript header lines head trees
    → (i : ℕ) → i < length lines → tree_of (get_or (texts_of head trees) (suc i) []) ≡ Some (get_or trees i null)
tree_behind header lines head trees are i h =
    let within : i < length trees = omega (arith, are.count) in
    let back : ReadsBack (get_or trees i null) = are.read_back (suc i) null (omega arith) in
    ap tree_of (get_or-map compact_text trees i null [] within) ∙ back

-- the line that it is
line_behind : (header : Header) (lines : List Line) (head : Data) (trees : List Data) → AreScript header lines head trees
    → (i : ℕ) → i < length lines → IsLineOf plain_lines false (settings_of header) (suc i + 1) (tree_of (get_or (texts_of head trees) (suc i) []))
line_behind header lines head trees are i h =
    let place : i + 2 ≡ suc i + 1 = omega arith in
    let line : Line = get_or lines i some_line in
    let says : line_of header.profile (i + 2) (get_or trees i null) ≡ Some line = are.says i null some_line h in
    record {
      tree = get_or trees i null;
      is = tree_behind header lines head trees are i h;
      plain = refl;
      named = worker_of line.actor;
      reads = ap (λ (at : ℕ). option_map (λ (l : Line). worker_of l.actor) (line_of header.profile at (get_or trees i null))) (sym place) ∙ ap (option_map (λ (l : Line). worker_of l.actor)) says;
      below = are.below i some_line h;
    }

head_read : (header : Header) (lines : List Line) (head : Data) (trees : List Data) → AreScript header lines head trees
    → tree_of (compact_text head) ≡ Some head
head_read header lines head trees are = are.read_back 0 head (omega arith)

are_read : (header : Header) (lines : List Line) (head : Data) (trees : List Data) → AreScript header lines head trees
    → AreRead plain_lines false (texts_of head trees) (settings_of header) (length lines + 1)
are_read header lines head trees are = record {
  head = λ some. ap (first_tree plain_lines) (head_read header lines head trees are)
      ∙ ap (λ found. first_of (option_map settings_of found)) are.heads;
  others = by_index;
}
  where
    by_index : (i : ℕ) → 0 < i → i < length lines + 1 → IsLineOf plain_lines false (settings_of header) (i + 1) (tree_of (get_or (texts_of head trees) i []))
    by_index zero some h = absurd (omega arith)
    by_index (suc i) some h = line_behind header lines head trees are i (omega arith)

are_kept : (header : Header) (lines : List Line) (head : Data) (trees : List Data) → AreScript header lines head trees
    → AreLinesKept (IsLine header.profile) (texts_of head trees) lines
are_kept header lines head trees are = λ i other h.
    record {
      tree = get_or trees i null;
      is = ap (λ (n : ℕ). tree_of (get_or (texts_of head trees) n [])) (next_is i) ∙ tree_behind header lines head trees are i h;
      holds = are.says i null other h;
    }

heads_text : (header : Header) (lines : List Line) (head : Data) (trees : List Data) → AreScript header lines head trees
    → IsHeaderOf (compact_text head) header
heads_text header lines head trees are = ap (option_and_then header_of) (head_read header lines head trees are) ∙ are.heads

pub script_is : TreesAreScript
script_is header lines head trees are =
    let text : List ℕ = text_of_trees (head ∷ trees) in
    let texts : lines_of text ≡ texts_of head trees = lines_are (head ∷ trees) in
    let count : length (texts_of head trees) ≡ length lines + 1 = omega (arith, length-map trees compact_text, are.count) in
    let read : AreRead plain_lines false (lines_of text) (settings_of header) (length lines + 1) =
    subst (λ (ts : List (List ℕ)). AreRead plain_lines false ts (settings_of header) (length lines + 1)) (sym texts) (are_read header lines head trees are) in
    let long : length (lines_of text) ≡ length lines + 1 = ap length texts ∙ count in (
      no_fault plain_lines (input_of_trees (head ∷ trees)) (settings_of header) (length lines + 1) read
          (λ place ends. let within : index_at (input_of_trees (head ∷ trees)) place < length (lines_of text) = ends_within (input_of_trees (head ∷ trees)) place ends in omega arith)
          (limits_stay (head ∷ trees) are.limits)
          (λ ended none. let empty : length (lines_of text) ≡ 0 = ap (λ (bs : List ℕ). length (lines_of bs)) none in omega arith)
          (λ asked ended. let no : false ≡ true = asked in cc),
      whole_script plain_lines IsLine false (lines_of text) header lines keeps_plain
          (subst (λ (ts : List (List ℕ)). IsHeaderOf (get_or ts 0 []) header) (sym texts) (heads_text header lines head trees are)) read
          (subst (λ (ts : List (List ℕ)). AreLinesKept (IsLine header.profile) ts lines) (sym texts) (are_kept header lines head trees are)) long,
    )
