-- Which of the lines of a journal are in their places, by what was read of them.
use Rattle.std.proofs.Common.{◌≡◌, ◌≢◌, ℕ, zero, suc, ◌+◌, ◌-◌, ◌<◌, ◌≤◌, Bool, true, false, List, [], ◌∷◌, ◌++◌, length, map, take, drop, get_or, refl, sym, ap, subst, ◌∙◌, ◌⊎◌, inl, inr, arith, length-append, length-drop, append-nil}
use Rattle.std.proofs.Math.ListN.{get_or-append}
use Rattle.std.proofs.Math.Seq.{get_or-append_seam}
use Rattle.std.proofs.lemmas.List.{get_or-take, get_or-drop, length-take, length-map}
use Rattle.ev_journal_read.proofs.EachLemmas.{All-first, All-rest}
use Rattle.std.proofs.lemmas.Bool.{cases_lt}
use Rattle.json.specs.Print.{escape_byte}
use Rattle.ev_types.specs.declared.journals.Format.{Format}
use Rattle.ev_types.specs.declared.journals.Row.{Row}
use Rattle.ev_journal.specs.Rows.{IsTextOf, row_text}
use Rattle.ev_journal_read.specs.Journals.{first_text, end_text, texts_of, AreMeant, IsMisplaced}
use Rattle.ev_audit_input.specs.Faults.{IsNoText, HasEndBefore}

-- a row's text is no end line: their third bytes differ
row_third : (row : Row) → get_or (row_text row) 2 0 ≡ 97
unfolding row_text escape_byte
row_third row = refl

end_third : (n : ℕ) → get_or (end_text n) 2 0 ≡ 101
unfolding escape_byte
end_third n = refl

row_no_end : (row : Row) (n : ℕ) → row_text row ≢ end_text n
row_no_end row n e = omega (arith, row_third row, end_third n, ap (λ (text : List ℕ). get_or text 2 0) e)

-- ---- the texts of rows and of what is after them

abbrev MeansRow : Row → Type 0
MeansRow row = IsTextOf (row_text row) row

row_at : (rows : List Row) (rest : List (List ℕ)) (k : ℕ) → AreMeant rows → k < length rows → (row : Row) × MeansRow row × (get_or (map row_text rows ++ rest) k [] ≡ row_text row)
row_at [] rest k meant h = absurd (omega arith)
row_at (row ∷ rows) rest zero meant h = (row, All-first MeansRow row rows meant, refl)
row_at (row ∷ rows) rest (suc k) meant h = row_at rows rest k (All-rest MeansRow row rows meant) (omega arith)

-- the number of texts
count_of : (rows : List Row) (end : Bool) → length rows ≤ length (texts_of rows end)
count_of rows true = omega (arith, length-append (map row_text rows) (end_text (length rows) ∷ []), length-map rows row_text)
count_of rows false = omega (arith, length-map rows row_text)

pub count_ended : (rows : List Row) → length (texts_of rows true) ≡ length rows + 1
count_ended rows = omega (arith, length-append (map row_text rows) (end_text (length rows) ∷ []), length-map rows row_text)

pub count_open : (rows : List Row) → length (texts_of rows false) ≡ length rows
count_open rows = length-map rows row_text

row_text_at : (rows : List Row) (end : Bool) (k : ℕ) → AreMeant rows → k < length rows → (row : Row) × MeansRow row × (get_or (texts_of rows end) k [] ≡ row_text row)
row_text_at rows true k meant h = row_at rows (end_text (length rows) ∷ []) k meant h
row_text_at rows false k meant h =
    let there = row_at rows [] k meant h in
    (there.0, there.1, ap (λ (texts : List (List ℕ)). get_or texts k []) (sym (append-nil (map row_text rows))) ∙ there.2)

end_text_at : (rows : List Row) → get_or (texts_of rows true) (length rows) [] ≡ end_text (length rows)
end_text_at rows =
    ap (λ (n : ℕ). get_or (texts_of rows true) n []) (sym (length-map rows row_text))
    ∙ get_or-append_seam (map row_text rows) (end_text (length rows)) [] []

-- the text of this index is out of its place in the journal whose first line has that one
abbrev pub Wrong : ℕ → List (List ℕ) → ℕ → ℕ → Type 0
Wrong workers texts first index = IsNoText workers (index - first) (get_or texts index []) ⊎ HasEndBefore texts first index

-- of these texts the first `given` ones were read: from the one of this index on they are a journal's
-- first line, rows and the end line or not, and what is after them
module _ (texts : List (List ℕ)) (workers first given : ℕ) (format : Format) (rows : List Row) (end : Bool) (rest : List (List ℕ))
    (head : get_or texts first [] ≡ first_text format workers) (meant : AreMeant rows) (lines : drop (first + 1) (take given texts) ≡ texts_of rows end ++ rest) where
  read_at : (k : ℕ) → k < length (texts_of rows end ++ rest) → get_or texts (first + 1 + k) [] ≡ get_or (texts_of rows end ++ rest) k []
  read_at k h =
      let long : length (drop (first + 1) (take given texts)) ≡ length (texts_of rows end ++ rest) = ap length lines in
      let within : first + 1 + k < given = omega (arith, length-drop (first + 1) (take given texts), length-take given texts) in
      sym (get_or-take given texts (first + 1 + k) [] within)
      ∙ sym (get_or-drop (first + 1) (take given texts) k [])
      ∙ ap (λ (ls : List (List ℕ)). get_or ls k []) lines

  text_at : (k : ℕ) → k < length (texts_of rows end) → get_or texts (first + 1 + k) [] ≡ get_or (texts_of rows end) k []
  text_at k h =
      read_at k (omega (arith, length-append (texts_of rows end) rest))
      ∙ get_or-append (texts_of rows end) rest [] k h

  -- how far the texts go
  pub reaches : first + 1 + length (texts_of rows end ++ rest) ≤ length texts ⊎ (length (texts_of rows end ++ rest) ≡ 0)
  reaches = by_size (cases_lt 0 (length (texts_of rows end ++ rest)))
    where
      by_size : (0 < length (texts_of rows end ++ rest)) ⊎ (length (texts_of rows end ++ rest) ≤ 0) → first + 1 + length (texts_of rows end ++ rest) ≤ length texts ⊎ (length (texts_of rows end ++ rest) ≡ 0)
      by_size (inl some) = inl (omega (arith, ap length lines, length-drop (first + 1) (take given texts), length-take given texts))
      by_size (inr none) = inr (omega arith)

  -- a row is no end line, and has a row's text
  not_end : (k n : ℕ) → k < length rows → get_or texts (first + 1 + k) [] ≢ end_text n
  not_end k n h e =
      let there = row_text_at rows end k meant h in
      row_no_end there.0 n (sym there.2 ∙ sym (text_at k (omega (arith, count_of rows end))) ∙ e)

  not_row : (k : ℕ) → k < length rows → ¬ (IsNoText workers (suc k) (get_or texts (first + 1 + k) []))
  not_row k h bad =
      let there = row_text_at rows end k meant h in
      bad.0 there.0 there.1.is_row (sym there.2 ∙ sym (text_at k (omega (arith, count_of rows end))))

  -- no end line comes before one of the rows, nor before the end line
  none_before : (index : ℕ) → index ≤ first + 1 + length rows → ¬ (HasEndBefore texts first index)
  none_before index h e =
      let before : first + 1 + e.rows < index = e.before in
      not_end e.rows e.rows (omega arith) e.is

  end_is : end ≡ true → get_or texts (first + 1 + length rows) [] ≡ end_text (length rows)
  end_is is =
      let same : texts_of rows end ≡ texts_of rows true = ap (texts_of rows) is in
      text_at (length rows) (omega (arith, ap length same, count_ended rows))
      ∙ ap (λ (ls : List (List ℕ)). get_or ls (length rows) []) same
      ∙ end_text_at rows

  in_place : (k : ℕ) → k < length (texts_of rows end) → ¬ (IsNoText workers (suc k) (get_or texts (first + 1 + k) []))
  in_place k h = by_end end refl h (cases_lt k (length rows))
    where
      by_end : (e : Bool) → end ≡ e → k < length (texts_of rows end) → (k < length rows) ⊎ (length rows ≤ k) → ¬ (IsNoText workers (suc k) (get_or texts (first + 1 + k) []))
      by_end e is within (inl row) = not_row k row
      by_end true is within (inr late) =
          let long : length (texts_of rows end) ≡ length (texts_of rows true) = ap (λ (b : Bool). length (texts_of rows b)) is in
          let last : length rows ≡ k = omega (arith, count_ended rows) in
          λ bad. bad.1 (subst (λ (n : ℕ). get_or texts (first + 1 + n) [] ≡ end_text n) last (end_is is))
      by_end false is within (inr late) =
          let long : length (texts_of rows end) ≡ length (texts_of rows false) = ap (λ (b : Bool). length (texts_of rows b)) is in
          absurd (omega (arith, count_open rows))

  -- none of these lines is out of its place
  pub none_wrong : (index : ℕ) → first ≤ index → index < first + 1 + length (texts_of rows end) → ¬ (Wrong workers texts first index)
  none_wrong index low high (inr before) = none_before index (by_end end refl) before
    where
      by_end : (e : Bool) → end ≡ e → index ≤ first + 1 + length rows
      by_end true is =
          let long : length (texts_of rows end) ≡ length (texts_of rows true) = ap (λ (b : Bool). length (texts_of rows b)) is in
          omega (arith, count_ended rows)
      by_end false is =
          let long : length (texts_of rows end) ≡ length (texts_of rows false) = ap (λ (b : Bool). length (texts_of rows b)) is in
          omega (arith, count_open rows)
  none_wrong index low high (inl bad) = by_place (cases_lt first index)
    where
      by_place : (first < index) ⊎ (index ≤ first) → ⊥
      by_place (inr here) =
          let same : first ≡ index = omega arith in
          let none : index - first ≡ 0 = omega arith in
          let plain : IsNoText workers 0 (get_or texts index []) = subst (λ (n : ℕ). IsNoText workers n (get_or texts index [])) none bad in
          plain format (subst (λ (n : ℕ). get_or texts n [] ≡ first_text format workers) same head)
      by_place (inl later) =
          let k : ℕ = index - first - 1 in
          let count : index - first ≡ suc k = omega arith in
          let same : first + 1 + k ≡ index = omega arith in
          in_place k (omega arith)
          (subst (λ (n : ℕ). IsNoText workers (suc k) (get_or texts n [])) (sym same)
          (subst (λ (n : ℕ). IsNoText workers n (get_or texts index [])) count bad))

  -- whether there is an end line
  pub has_end : end ≡ true → HasEndBefore texts first (length texts)
  has_end is =
      let long : length (texts_of rows end) ≡ length (texts_of rows true) = ap (λ (b : Bool). length (texts_of rows b)) is in
      let within : first + 1 + length rows < length texts =
      omega (arith, ap length lines, length-append (texts_of rows end) rest, count_ended rows, length-drop (first + 1) (take given texts), length-take given texts) in
      record { rows = length rows; before = within; is = end_is is }

  pub no_end : end ≡ false → length texts ≤ first + 1 + length rows → ¬ (HasEndBefore texts first (length texts))
  no_end is all = none_before (length texts) all

  -- a line after them that is misplaced
  pub wrong_next : (text : List ℕ) → rest ≡ text ∷ [] → IsMisplaced rows end text → Wrong workers texts first (first + 1 + length (texts_of rows end))
  wrong_next text one misplaced = by_end end refl misplaced
    where
      here : get_or texts (first + 1 + length (texts_of rows end)) [] ≡ text
      here =
          read_at (length (texts_of rows end)) (omega (arith, length-append (texts_of rows end) rest, ap length one))
          ∙ ap (λ (ls : List (List ℕ)). get_or (texts_of rows end ++ ls) (length (texts_of rows end)) []) one
          ∙ get_or-append_seam (texts_of rows end) text [] []

      by_end : (e : Bool) → end ≡ e → IsMisplaced rows e text → Wrong workers texts first (first + 1 + length (texts_of rows end))
      by_end true is m =
          let long : length (texts_of rows end) ≡ length (texts_of rows true) = ap (λ (b : Bool). length (texts_of rows b)) is in
          inr (record { rows = length rows; before = omega (arith, count_ended rows); is = end_is is })
      by_end false is m =
          let long : length (texts_of rows end) ≡ length (texts_of rows false) = ap (λ (b : Bool). length (texts_of rows b)) is in
          let count : first + 1 + length (texts_of rows end) - first ≡ suc (length rows) = omega (arith, count_open rows) in
          inl (subst (λ (n : ℕ). IsNoText workers n (get_or texts (first + 1 + length (texts_of rows end)) [])) (sym count)
          (subst (IsNoText workers (suc (length rows))) (sym here) m))

-- a first line that is the first of no journal with this many workers
pub wrong_first : (texts : List (List ℕ)) (workers first : ℕ) (text : List ℕ) → get_or texts first [] ≡ text → ((format : Format) → text ≢ first_text format workers) → Wrong workers texts first first
wrong_first texts workers first text here wrong =
    let none : first - first ≡ 0 = omega arith in
    inl (subst (λ (n : ℕ). IsNoText workers n (get_or texts first [])) (sym none) (subst (IsNoText workers 0) (sym here) wrong))
