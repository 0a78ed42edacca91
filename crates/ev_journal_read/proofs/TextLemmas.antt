-- What a text is as a row, by the row that its tree would be.
use Rattle.std.proofs.Common.{◌≡◌, ◌≢◌, ℕ, List, Bool, true, false, cond, Option, Some, None, option_map, option_and_then, refl, sym, ap, ◌∙◌, subst, true≢false, bytes_eq, not}
use Rattle.std.proofs.lemmas.Slice.Eq.{bytes_eq-Decides}
use Rattle.std.specs.Str.{IsUtf8}
use Rattle.std.proofs.lemmas.Str.{is_utf8-from_IsUtf8}
use Rattle.serde_json.specs.Data.{Data}
use Rattle.serde_json.specs.Read.{read}
use Rattle.serde_json.specs.View.{view}
use Rattle.serde_json.specs.declared.value.Value.{Value}
use Rattle.ev_types.specs.declared.journals.Row.{Row}
use Rattle.ev_script.specs.Members.{tree_of}
use Rattle.ev_journal.specs.Rendering.{row_tree, entry_row}
use Rattle.ev_journal.specs.Rows.{is_answered_with, IsRow, row_text, chosen_row, IsTextOf}
use Rattle.ev_journal_read.specs.Reading.{IsNoRow, HasOneRow, WritesOneToOne, ReadsAsWritten}
use Rattle.ev_journal_read.specs.Trees.{row_of}
use Rattle.ev_journal_read.proofs.RowTrees.{read-row_text}
use Rattle.ev_journal_read.proofs.RowRead.{row_read}
use Rattle.ev_journal_read.proofs.KeptLemmas.{Kept, HasParts, row_kept}
use Rattle.ev_journal_read.proofs.ChosenLemmas.{answered_same, row_text-chosen, chosen_row-twice, IsRow-chosen}

tree_of-row : (row : Row) → IsRow row → tree_of (row_text row) ≡ Some (row_tree row)
tree_of-row row h = ap (λ b. cond b (read (row_text row)) None) (is_utf8-from_IsUtf8 (row_text row) h.utf8) ∙ read-row_text row h

-- the text of a row gives the row that is meant
abbrev pub found_in : List ℕ → Option Row
found_in text = option_and_then row_of (tree_of text)

found_in-row : (row : Row) → IsRow row → found_in (row_text row) ≡ Some (chosen_row row)
found_in-row row h = ap (option_and_then row_of) (tree_of-row row h) ∙ row_read row h

-- ---- texts of no row

pub nothing_found : (text : List ℕ) → found_in text ≡ None → IsNoRow text
nothing_found text none row h same = let one = ap found_in (sym same) ∙ found_in-row row h in cc

pub no_tree : (text : List ℕ) (tree : Option Value) → option_map view tree ≡ tree_of text → tree ≡ None → IsNoRow text
no_tree text tree e none = nothing_found text (ap (option_and_then row_of) (sym e ∙ ap (option_map view) none))

pub no_row : (text : List ℕ) (tree : Option Value) (value : Value) (row : Option Row) → option_map view tree ≡ tree_of text → tree ≡ Some value → row ≡ row_of (view value) → row ≡ None
    → IsNoRow text
no_row text tree value row e some read none = nothing_found text (ap (option_and_then row_of) (sym e ∙ ap (option_map view) some) ∙ sym read ∙ none)

abbrev the_row : Row → Option Row → Row
the_row row None = row
the_row row (Some found) = found

is_meant : (text : List ℕ) (found : Row) → found_in text ≡ Some found → (row : Row) → IsRow row → row_text row ≡ text → chosen_row row ≡ found
is_meant text found some row h same = ap (the_row found) (sym (found_in-row row h) ∙ ap found_in same ∙ some)

pub found_by : (text : List ℕ) (tree : Option Value) (value : Value) (row : Option Row) (found : Row)
    → option_map view tree ≡ tree_of text → tree ≡ Some value → row ≡ row_of (view value) → row ≡ Some found → found_in text ≡ Some found
found_by text tree value row found e some read is = ap (option_and_then row_of) (sym e ∙ ap (option_map view) some) ∙ sym read ∙ is

pub not_answered : (text : List ℕ) (found : Row) → found_in text ≡ Some found → is_answered_with found.op found.answer ≡ false → IsNoRow text
not_answered text found some refused row h same =
    let meant = is_meant text found some row h same in
    true≢false (sym (answered_same row.op row.answer ∙ h.answered) ∙ ap (λ (r : Row). is_answered_with r.op r.answer) meant ∙ refused)

pub another_text : (text : List ℕ) (found : Row) → found_in text ≡ Some found → row_text found ≢ text → IsNoRow text
another_text text found some differs row h same = differs (sym (ap row_text (is_meant text found some row h same)) ∙ row_text-chosen row h ∙ same)

-- ---- the text of a row

parts_of : (tree : Data) (found : Row) → row_of tree ≡ Some found → HasParts found
parts_of tree found e = let kept : Kept (Some found) HasParts = subst (λ o. Kept o HasParts) e (row_kept tree) in kept.holds

pub is_text_of : (text : List ℕ) (tree : Data) (found : Row) → tree_of text ≡ Some tree → row_of tree ≡ Some found → is_answered_with found.op found.answer ≡ true
    → row_text found ≡ text → IsUtf8 (row_text found) → IsTextOf text found
is_text_of text tree found read is answered same text_utf8 =
    let parts = parts_of tree found is in
    let row : IsRow found = record { actor = parts.actor; at = parts.at; step = parts.step; answer = parts.answer; answered = answered; utf8 = text_utf8 } in
    record { is_row = row; chosen = is_meant text found (ap (option_and_then row_of) read ∙ is) found row same; same = same }

-- ---- laws

pub one_to_one : WritesOneToOne
one_to_one row other h k same = is_meant (row_text other) (chosen_row other) (found_in-row other k) row h same

pub one_row : HasOneRow
one_row text row other h k = sym h.chosen ∙ one_to_one row other h.is_row k.is_row (h.same ∙ sym k.same) ∙ k.chosen

pub as_written : ReadsAsWritten
as_written entry h =
    let row = entry_row entry in
    record { is_row = IsRow-chosen row h; chosen = chosen_row-twice row h; same = row_text-chosen row h }

-- ---- texts that are compared

turned : (b : Bool) → false ≡ not b → b ≡ true
turned true e = refl
turned false e = e

pub same_bytes : (a b : List ℕ) → false ≡ not (bytes_eq a b) → a ≡ b
same_bytes a b e = (bytes_eq-Decides a b).0 (turned (bytes_eq a b) e)

pub other_bytes : (a b : List ℕ) → true ≡ not (bytes_eq a b) → a ≢ b
other_bytes a b e same = true≢false (e ∙ ap not ((bytes_eq-Decides a b).1 same))
