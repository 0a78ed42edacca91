-- The lines of a journal's text are the texts of its first line, its rows and its end line,
-- so the text determines the rows.
use Rattle.std.proofs.Common.{◌≡◌, ℕ, suc, ◌^◌, ◌<◌, List, [], ◌∷◌, ◌++◌, length, map, Option, Some, None, option_and_then, true, codes, refl, sym, ap, ap₂, ◌∙◌, subst, arith, append_assoc, length-append}
use Rattle.std.specs.List.{flat_map}
use Rattle.serde_json.specs.Data.{Data}
use Rattle.serde_json.specs.Find.{get, as_number, as_u64}
use Rattle.serde_json.specs.Read.{read}
use Rattle.serde_json.specs.Written.{compact_text}
use Rattle.ev_io.specs.Lines.{lines_of}
use Rattle.ev_types.specs.declared.events.Entry.{Entry}
use Rattle.ev_types.specs.declared.journals.Format.{Format}
use Rattle.ev_types.specs.declared.journals.Format.TheVariants.{One, Two}
use Rattle.ev_types.specs.declared.journals.Row.{Row}
use Rattle.ev_model.specs.Operations.{IsRunOf}
use Rattle.ev_journal.specs.Rendering.{first_tree, end_tree, entry_row, entry_tree, format_number, line_text, rendering_of}
use Rattle.ev_journal.specs.Rows.{IsRow, IsTextOf, row_text, chosen_row}
use Rattle.ev_journal_read.specs.Journals.{first_text, end_text, texts_of, AreMeant}
use Rattle.ev_journal_read.proofs.EachLemmas.{All-first, All-rest, All-none, All-more}
use Rattle.ev_journal_read.proofs.Canonical.{IsCanonical}
use Rattle.ev_journal_read.proofs.ReadBack.{read-compact_text}
use Rattle.ev_journal_read.proofs.RowTrees.{IsCanonical-row}
use Rattle.ev_journal_read.proofs.ChosenLemmas.{row_text-chosen, chosen_row-twice, IsRow-chosen}
use Rattle.ev_journal_read.proofs.TextLemmas.{one_to_one}
use Rattle.ev_journal_read.specs.OneJournal.{HaveRows, meant_rows, RendersJournals, TextTellsJournal}
use Rattle.ev_journal_read.proofs.FeedLemmas.{NoFeed, NoFeed-compact_text, NoFeed-end, line_first}
use Rattle.ev_journal_read.proofs.RowLemmas.{have_rows}
use Rattle.ev_journal_read.proofs.RunLemmas.{same_run}

-- ---- lines

line_then : (tree : Data) (rest : List ℕ) → NoFeed (compact_text tree) → lines_of (line_text tree ++ rest) ≡ compact_text tree ∷ lines_of rest
unfolding line_text
line_then tree rest h = ap lines_of (append_assoc (compact_text tree) (10 ∷ []) rest) ∙ line_first (compact_text tree) rest h

line_alone : (tree : Data) → NoFeed (compact_text tree) → lines_of (line_text tree) ≡ compact_text tree ∷ []
unfolding line_text
line_alone tree h = line_first (compact_text tree) [] h

abbrev HasRow : Entry → Type 0
HasRow entry = IsRow (entry_row entry)

abbrev text_of : Entry → List ℕ
text_of entry = row_text (entry_row entry)

entry_text : (entry : Entry) → compact_text (entry_tree entry) ≡ text_of entry
unfolding row_text
entry_text entry = refl

NoFeed-entry : (entry : Entry) → HasRow entry → NoFeed (compact_text (entry_tree entry))
NoFeed-entry entry h = NoFeed-compact_text (entry_tree entry) (IsCanonical-row (entry_row entry) h.answer h.at h.step)

rows_then : (journal : List Entry) (rest : List ℕ) → HaveRows journal
    → lines_of (flat_map (λ entry. line_text (entry_tree entry)) journal ++ rest) ≡ map text_of journal ++ lines_of rest
rows_then [] rest h = refl
rows_then (entry ∷ journal) rest h =
    ap lines_of (append_assoc (line_text (entry_tree entry)) (flat_map (λ entry. line_text (entry_tree entry)) journal) rest)
    ∙ line_then (entry_tree entry) (flat_map (λ entry. line_text (entry_tree entry)) journal ++ rest) (NoFeed-entry entry (All-first HasRow entry journal h))
    ∙ ap₂ (λ text texts. text ∷ texts) (entry_text entry) (rows_then journal rest (All-rest HasRow entry journal h))

IsCanonical-first : (format : Format) (workers : ℕ) → workers < 2 ^ 64 → IsCanonical (first_tree format workers)
IsCanonical-first One workers h = (((refl, tt), (tt, tt)), (omega arith, (h, tt)))
IsCanonical-first Two workers h = (((refl, tt), (tt, tt)), (omega arith, (h, tt)))

lines_rendered : (format : Format) (workers : ℕ) (journal : List Entry) → workers < 2 ^ 64 → HaveRows journal
    → lines_of (rendering_of format workers journal) ≡ first_text format workers ∷ (map text_of journal ++ end_text (length journal) ∷ [])
lines_rendered format workers journal small h =
    ap lines_of (append_assoc (line_text (first_tree format workers)) (flat_map (λ entry. line_text (entry_tree entry)) journal) (line_text (end_tree (length journal))))
    ∙ line_then (first_tree format workers) (flat_map (λ entry. line_text (entry_tree entry)) journal ++ line_text (end_tree (length journal)))
    (NoFeed-compact_text (first_tree format workers) (IsCanonical-first format workers small))
    ∙ ap (λ texts. first_text format workers ∷ texts)
    (rows_then journal (line_text (end_tree (length journal))) h ∙ ap (λ texts. map text_of journal ++ texts) (line_alone (end_tree (length journal)) (NoFeed-end (length journal))))

-- ---- rows

texts_meant : (journal : List Entry) → HaveRows journal → map text_of journal ≡ map row_text (meant_rows journal)
texts_meant [] h = refl
texts_meant (entry ∷ journal) h =
    ap₂ (λ text texts. text ∷ texts) (sym (row_text-chosen (entry_row entry) (All-first HasRow entry journal h))) (texts_meant journal (All-rest HasRow entry journal h))

rows_meant : (journal : List Entry) → HaveRows journal → AreMeant (meant_rows journal)
rows_meant [] h = All-none (λ (row : Row). IsTextOf (row_text row) row)
rows_meant (entry ∷ journal) h =
    let row = entry_row entry in
    let here : IsRow row = All-first HasRow entry journal h in
    All-more (λ (row : Row). IsTextOf (row_text row) row) (chosen_row row) (meant_rows journal)
    (record { is_row = IsRow-chosen row here; chosen = chosen_row-twice row here; same = refl }) (rows_meant journal (All-rest HasRow entry journal h))

length-meant : (journal : List Entry) → length (meant_rows journal) ≡ length journal
length-meant [] = refl
length-meant (entry ∷ journal) = ap (λ n. suc n) (length-meant journal)

pub renders : RendersJournals
renders format workers journal small h = record {
  texts = texts_of (meant_rows journal) true;
  lines =
      lines_rendered format workers journal small h
      ∙ ap₂ (λ texts (n : ℕ). first_text format workers ∷ (texts ++ end_text n ∷ [])) (texts_meant journal h) (sym (length-meant journal));
  reads = record { head = refl; meant = rows_meant journal h; lines = refl };
}

-- ---- one text

abbrev first_or : List ℕ → List (List ℕ) → List ℕ
first_or text [] = text
first_or text (first ∷ texts) = first

abbrev others : List (List ℕ) → List (List ℕ)
others [] = []
others (first ∷ texts) = texts

-- lists with one element more each
pub without_last : (xs ys : List (List ℕ)) (x y : List ℕ) → xs ++ x ∷ [] ≡ ys ++ y ∷ [] → xs ≡ ys
without_last [] [] x y e = refl
without_last [] (b ∷ ys) x y e = absurd (omega (arith, ap length e, length-append ys (y ∷ [])))
without_last (a ∷ xs) [] x y e = absurd (omega (arith, ap length e, length-append xs (x ∷ [])))
without_last (a ∷ xs) (b ∷ ys) x y e = ap₂ (λ text texts. text ∷ texts) (ap (first_or a) e) (without_last xs ys x y (ap others e))

-- entries with the same texts have rows that are meant as the same
same_rows : (journal other : List Entry) → HaveRows journal → HaveRows other → map text_of journal ≡ map text_of other → meant_rows journal ≡ meant_rows other
same_rows [] [] h k e = refl
same_rows [] (entry ∷ other) h k e = absurd (cc)
same_rows (entry ∷ journal) [] h k e = absurd (cc)
same_rows (entry ∷ journal) (next ∷ other) h k e =
    ap₂ (λ row rows. row ∷ rows)
    (one_to_one (entry_row entry) (entry_row next) (All-first HasRow entry journal h) (All-first HasRow next other k) (ap (first_or []) e))
    (same_rows journal other (All-rest HasRow entry journal h) (All-rest HasRow next other k) (ap others e))

abbrev format_in : Option Data → Option ℕ
format_in tree = option_and_then as_u64 (option_and_then as_number (option_and_then (get (codes "format")) tree))

format_by : (format another : Format) → format_number format ≡ format_number another → format ≡ another
format_by One One e = refl
format_by Two Two e = refl
format_by One Two e = absurd (omega (arith, e))
format_by Two One e = absurd (omega (arith, e))

abbrev number_in : Option ℕ → ℕ
number_in None = 0
number_in (Some n) = n

-- a first line gives its format
pub same_format : (format another : Format) (workers : ℕ) → workers < 2 ^ 64 → first_text format workers ≡ first_text another workers → format ≡ another
same_format format another workers small e =
    let one : read (first_text format workers) ≡ Some (first_tree format workers) =
    read-compact_text (first_tree format workers) (IsCanonical-first format workers small) (omega arith) in
    let two : read (first_text another workers) ≡ Some (first_tree another workers) =
    read-compact_text (first_tree another workers) (IsCanonical-first another workers small) (omega arith) in
    format_by format another (ap (λ tree. number_in (format_in tree)) (sym one ∙ ap read e ∙ two))

pub tells : TextTellsJournal
tells script format another journal other kept one two bounded bounded_too same =
    let h : HaveRows journal = have_rows format script.workers script.node journal one.run bounded in
    let k : HaveRows other = have_rows another script.workers script.node other two.run bounded_too in
    let small : script.workers < 2 ^ 64 = omega (arith, kept.few_workers) in
    let lines : first_text format script.workers ∷ (map text_of journal ++ end_text (length journal) ∷ [])
    ≡ first_text another script.workers ∷ (map text_of other ++ end_text (length other) ∷ []) =
    sym (lines_rendered format script.workers journal small h) ∙ ap lines_of same ∙ lines_rendered another script.workers other small k in
    let formats : format ≡ another = same_format format another script.workers small (ap (first_or []) lines) in
    let texts : map text_of journal ≡ map text_of other =
    without_last (map text_of journal) (map text_of other) (end_text (length journal)) (end_text (length other)) (ap others lines) in
    let run : IsRunOf format script other = subst (λ (f : Format). IsRunOf f script other) (sym formats) two in
    (formats, same_run format script journal other kept one run (same_rows journal other h k texts))
