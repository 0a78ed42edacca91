-- Bytes are one script followed by one journal.
use Rattle.std.proofs.Common.{◌≡◌, ℕ, ◌^◌, ◌<◌, List, [], ◌∷◌, length, map, Option, Some, None, true, refl, sym, ap, ap₂, ◌∙◌, subst, arith, drop}
use Rattle.ev_io.specs.Lines.{lines_of}
use Rattle.ev_types.specs.Scripts.{ScriptParts, IsScript}
use Rattle.ev_types.specs.declared.journals.Format.{Format}
use Rattle.ev_types.specs.declared.journals.Row.{Row}
use Rattle.ev_journal.specs.Rows.{IsTextOf, row_text}
use Rattle.ev_journal_read.specs.Journals.{first_text, end_text, texts_of, AreMeant}
use Rattle.ev_journal_read.proofs.EachLemmas.{All-first, All-rest}
use Rattle.ev_journal_read.proofs.TextLemmas.{one_row}
use Rattle.ev_journal_read.proofs.JournalTextLemmas.{same_format, without_last}
use Rattle.ev_audit_input.specs.Parts.{IsParts}

abbrev script_in : ScriptParts → Option ScriptParts → ScriptParts
script_in script None = script
script_in script (Some found) = found

abbrev first_in : List ℕ → List (List ℕ) → List ℕ
first_in text [] = text
first_in text (first ∷ texts) = first

abbrev rest_in : List (List ℕ) → List (List ℕ)
rest_in [] = []
rest_in (first ∷ texts) = texts

-- rows that are meant by the same texts are the same
same_meant : (rows others : List Row) → AreMeant rows → AreMeant others → map row_text rows ≡ map row_text others → rows ≡ others
same_meant [] [] h k e = refl
same_meant [] (row ∷ others) h k e = absurd (cc)
same_meant (row ∷ rows) [] h k e = absurd (cc)
same_meant (row ∷ rows) (other ∷ others) h k e =
    let here : IsTextOf (row_text row) row = All-first (λ (r : Row). IsTextOf (row_text r) r) row rows h in
    let there : IsTextOf (row_text other) other = All-first (λ (r : Row). IsTextOf (row_text r) r) other others k in
    let text : row_text row ≡ row_text other = ap (first_in []) e in
    ap₂ (λ (r : Row) rs. r ∷ rs)
    (one_row (row_text other) row other (subst (λ t. IsTextOf t row) text here) there)
    (same_meant rows others (All-rest (λ (r : Row). IsTextOf (row_text r) r) row rows h) (All-rest (λ (r : Row). IsTextOf (row_text r) r) other others k) (ap rest_in e))

-- the parts of bytes
pub record ArePartsOf (format other : Format) (script another : ScriptParts) (rows others : List Row) : Type 0 where
  pub formats : format ≡ other
  pub scripts : script ≡ another
  pub same : rows ≡ others

pub one_parts : (bytes : List ℕ) (format other : Format) (script another : ScriptParts) (rows others : List Row) → IsScript script
    → IsParts bytes format script rows → IsParts bytes other another others → ArePartsOf format other script another rows others
one_parts bytes format other script another rows others kept one two =
    let scripts : script ≡ another = ap (script_in script) (sym one.reads ∙ two.reads) in
    let small : script.workers < 2 ^ 64 = omega (arith, kept.few_workers) in
    let lines : first_text format script.workers ∷ texts_of rows true ≡ first_text other script.workers ∷ texts_of others true =
    sym one.lines ∙ (λ i. drop (scripts i).count (lines_of bytes)) ∙ two.lines ∙ (λ i. first_text other (sym scripts i).workers ∷ texts_of others true) in
    record {
      formats = same_format format other script.workers small (ap (first_in []) lines);
      scripts = scripts;
      same =
          same_meant rows others one.meant two.meant
          (without_last (map row_text rows) (map row_text others) (end_text (length rows)) (end_text (length others)) (ap rest_in lines));
    }
