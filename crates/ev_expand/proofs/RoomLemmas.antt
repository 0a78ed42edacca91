-- Trees within the limits, and one more.
use Rattle.std.proofs.Common.{◌≡◌, ℕ, suc, ◌+◌, ◌≤◌, List, [], ◌∷◌, ◌++◌, length, sym, ap, ◌∙◌, arith, length-append}
use Rattle.std.specs.Prelude.{All}
use Rattle.std.proofs.lemmas.List.{append-nil}
use Rattle.std.proofs.lemmas.List.Elements.{All-push}
use Rattle.std.proofs.lemmas.Grind.{flat_map-append}
use Rattle.serde_json.specs.Data.{Data}
use Rattle.serde_json.specs.Written.{compact_text}
use Rattle.ev_io.specs.declared.limits.TheConstants.{MAX_LINE_BYTES}
use Rattle.ev_journal.specs.Rendering.{line_text}
use Rattle.ev_trees.specs.Trees.{text_of_trees, AreWithinLimits}
use Rattle.ev_expand.specs.Room.{HasRoom, IsTextSoFar}
use Rattle.ev_expand.specs.declared.text_so_far.TextSoFar.{TextSoFar}

line_length : (tree : Data) → length (line_text tree) ≡ length (compact_text tree) + 1
unfolding line_text
line_length tree = length-append (compact_text tree) (10 ∷ [])

text_with : (trees : List Data) (tree : Data) → text_of_trees (trees ++ tree ∷ []) ≡ text_of_trees trees ++ line_text tree
text_with trees tree = flat_map-append line_text trees (tree ∷ []) ∙ ap (λ (xs : List ℕ). text_of_trees trees ++ xs) (append-nil (line_text tree))

length_with : (trees : List Data) (tree : Data) → length (text_of_trees (trees ++ tree ∷ [])) ≡ length (text_of_trees trees) + (length (compact_text tree) + 1)
length_with trees tree =
    ap length (text_with trees tree) ∙ length-append (text_of_trees trees) (line_text tree) ∙ ap (λ (n : ℕ). length (text_of_trees trees) + n) (line_length tree)

count_with : (trees : List Data) (tree : Data) → length (trees ++ tree ∷ []) ≡ length trees + 1
count_with trees tree = length-append trees (tree ∷ [])

-- a line that has room goes after the text
pub room_for : (trees : List Data) (tree : Data) (old new : TextSoFar) → IsTextSoFar trees old
    → HasRoom (length old.bytes.items) old.lines (length (line_text tree))
    → new.bytes.items ≡ old.bytes.items ++ line_text tree → new.lines ≡ old.lines + 1 → IsTextSoFar (trees ++ tree ∷ []) new
room_for trees tree old new is room text count =
    let bytes : length old.bytes.items ≡ length (text_of_trees trees) = ap length is.bytes in
    let lines : old.lines ≡ length trees = is.lines in
    let here : length (compact_text tree) ≤ MAX_LINE_BYTES = omega (arith, room.short, line_length tree) in
    record {
      bytes = text ∙ ap (λ (xs : List ℕ). xs ++ line_text tree) is.bytes ∙ sym (text_with trees tree);
      lines = omega (arith, count, count_with trees tree);
      limits = record {
        short = All-push (λ (t : Data). length (compact_text t) ≤ MAX_LINE_BYTES) trees tree is.limits.short here;
        few = omega (arith, room.few, count_with trees tree);
        small = omega (arith, room.small, line_length tree, length_with trees tree);
      };
    }

last_of : (trees : List Data) (tree : Data) → All (λ (t : Data). length (compact_text t) ≤ MAX_LINE_BYTES) (trees ++ tree ∷ []) → length (compact_text tree) ≤ MAX_LINE_BYTES
last_of [] tree each = each 0 tree (omega arith)
last_of (t ∷ trees) tree each = last_of trees tree (λ i other h. each (suc i) other (omega arith))

-- trees within the limits had room for the last
pub room_had : (trees : List Data) (tree : Data) (old : TextSoFar) → IsTextSoFar trees old → AreWithinLimits (trees ++ tree ∷ [])
    → HasRoom (length old.bytes.items) old.lines (length (line_text tree))
room_had trees tree old is within =
    let bytes : length old.bytes.items ≡ length (text_of_trees trees) = ap length is.bytes in
    let lines : old.lines ≡ length trees = is.lines in
    record {
      short = omega (arith, last_of trees tree within.short, line_length tree);
      few = omega (arith, within.few, count_with trees tree);
      small = omega (arith, within.small, line_length tree, length_with trees tree);
    }
