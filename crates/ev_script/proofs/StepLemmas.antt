-- What one more line changes, and what is known of the bytes taken.
use Rattle.std.proofs.Common.{◌≡◌, ℕ, zero, suc, ◌+◌, ◌-◌, ◌<◌, ◌≤◌, Bool, true, false, cond, List, [], ◌∷◌, ◌++◌, length, take, drop, get_or, eqb, Ok, refl, sym, ap, subst, ◌∙◌, ◌⊎◌, inl, inr, arith, add-zero, length-append}
use Rattle.std.proofs.Math.ListN.{get_or-append}
use Rattle.std.proofs.Math.Seq.{get_or-append_seam}
use Rattle.std.proofs.lemmas.List.{get_or-take, get_or-drop, take-append-le}
use Rattle.std.proofs.lemmas.Bool.{cases_lt}
use Rattle.serde_json.specs.Data.{Data}
use Rattle.ev_io.specs.declared.limits.TheConstants.{MAX_LINES}
use Rattle.ev_io.specs.declared.faults.LineEnd.TheVariants.{Line}
use Rattle.ev_io.specs.Lines.{lines_of, onto_first, feeds_in}
use Rattle.ev_io.specs.LineFaults.{HasNoLineFault}
use Rattle.ev_io.specs.LinesState.{LinesState, HasTaken}
use Rattle.ev_io.specs.ReadLine.{GivesLine, ReadsLine}
use Rattle.ev_script.specs.declared.forms.Settings.{Settings}
use Rattle.ev_script.specs.Members.{tree_of}
use Rattle.ev_script.specs.Faults.{LineForms, index_at}
use Rattle.ev_script.specs.Content.{first_content, IsLineOf, IsKeptOf}
use Rattle.ev_script.specs.ReadLines.{AreRead, AreLinesKept}
use Rattle.ev_script.specs.ReadInput.{input_of}
use Rattle.ev_script.proofs.LimitLemmas.{last_end}
use Rattle.ev_script.proofs.ContentFaults.{IsGiven}

-- ---- lines that stay

pub same_at : (n : ℕ) (xs ys : List (List ℕ)) (i : ℕ) → take n ys ≡ take n xs → i < n → get_or ys i [] ≡ get_or xs i []
same_at n xs ys i e h = sym (get_or-take n ys i [] h) ∙ ap (λ (zs : List (List ℕ)). get_or zs i []) e ∙ get_or-take n xs i [] h

pub are_read_same : (forms : LineForms) (audit : Bool) (xs ys : List (List ℕ)) (settings : Settings) (n : ℕ) → take n ys ≡ take n xs → AreRead forms audit xs settings n → AreRead forms audit ys settings n
are_read_same forms audit xs ys settings n e read = record {
  head = λ h. ap (first_content forms) (same_at n xs ys 0 e h) ∙ read.head h;
  others = λ i some within. subst (λ (t : List ℕ). IsLineOf forms audit settings (i + 1) (tree_of t)) (sym (same_at n xs ys i e within)) (read.others i some within);
}

pub are_kept_same : {A : Type 0} (keeps : ℕ → Data → A → Type 0) (xs ys : List (List ℕ)) (n : ℕ) (kept : List A) → take n ys ≡ take n xs → length kept + 1 ≤ n → AreLinesKept keeps xs kept → AreLinesKept keeps ys kept
are_kept_same keeps xs ys n kept e most k = λ i other h.
    subst (λ (t : List ℕ). IsKeptOf keeps (i + 2) (tree_of t) (get_or kept i other)) (sym (same_at n xs ys (i + 1) e (omega arith))) (k i other h)

-- ---- one line more

pub are_read_more : (forms : LineForms) (audit : Bool) (xs : List (List ℕ)) (settings : Settings) (n : ℕ) → AreRead forms audit xs settings n → 0 < n → IsLineOf forms audit settings (n + 1) (tree_of (get_or xs n [])) → AreRead forms audit xs settings (n + 1)
are_read_more forms audit xs settings n read some here = record { head = λ h. read.head some; others = λ i above within. by_place i above within (cases_lt i n) }
  where
    by_place : (i : ℕ) → 0 < i → i < n + 1 → (i < n) ⊎ (n ≤ i) → IsLineOf forms audit settings (i + 1) (tree_of (get_or xs i []))
    by_place i above within (inl before) = read.others i above before
    by_place i above within (inr late) =
        let same : n ≡ i = omega arith in
        subst (λ (j : ℕ). IsLineOf forms audit settings (j + 1) (tree_of (get_or xs j []))) same here

pub are_kept_more : {A : Type 0} (keeps : ℕ → Data → A → Type 0) (xs : List (List ℕ)) (kept : List A) (more : A) → AreLinesKept keeps xs kept → IsKeptOf keeps (length kept + 2) (tree_of (get_or xs (length kept + 1) [])) more → AreLinesKept keeps xs (kept ++ more ∷ [])
are_kept_more keeps xs kept more k here = λ i other h. by_place i other h (cases_lt i (length kept))
  where
    by_place : (i : ℕ) (other : _) → i < length (kept ++ more ∷ []) → (i < length kept) ⊎ (length kept ≤ i) → IsKeptOf keeps (i + 2) (tree_of (get_or xs (i + 1) [])) (get_or (kept ++ more ∷ []) i other)
    by_place i other h (inl before) =
        subst (λ (x : _). IsKeptOf keeps (i + 2) (tree_of (get_or xs (i + 1) [])) x) (sym (get_or-append kept (more ∷ []) other i before)) (k i other before)
    by_place i other h (inr late) =
        let same : length kept ≡ i = omega (arith, length-append kept (more ∷ [])) in
        subst (λ (j : ℕ). IsKeptOf keeps (j + 2) (tree_of (get_or xs (j + 1) [])) (get_or (kept ++ more ∷ []) j other)) same
        (subst (λ (x : _). IsKeptOf keeps (length kept + 2) (tree_of (get_or xs (length kept + 1) [])) x) (sym (get_or-append_seam kept more [] other)) here)

text_at : (n : ℕ) (xs rest : List (List ℕ)) (text : List ℕ) → drop n xs ≡ text ∷ rest → get_or xs n [] ≡ text
text_at n xs rest text e = ap (λ (i : ℕ). get_or xs i []) (sym (add-zero n)) ∙ sym (get_or-drop n xs 0 []) ∙ ap (λ (ys : List (List ℕ)). get_or ys 0 []) e

-- the line that was given
pub given_line : (forms : LineForms) (audit : Bool) (settings : Settings) (old new : LinesState) (bytes more before after : List ℕ) → ReadsLine old new bytes more before after (Ok Line) → AreRead forms audit (lines_of bytes) settings old.given → IsGiven forms (input_of audit new (bytes ++ more)) settings old.given after
given_line forms audit settings old new bytes more before after reads read =
    let means : GivesLine old new (bytes ++ more) after = reads.means in
    let number : new.given ≡ old.given + 1 = means.number in
    let last = last_end audit new (bytes ++ more) reads.taken (omega arith) in
    let numbered : index_at (input_of audit new (bytes ++ more)) last.0 + 1 ≡ new.given = last.1.index in
    let index : index_at (input_of audit new (bytes ++ more)) last.0 ≡ old.given = omega arith in
    record {
      place = last.0;
      before = record {
        ends = last.1.ends;
        read = subst (AreRead forms audit (lines_of (bytes ++ more)) settings) (sym index) (are_read_same forms audit (lines_of bytes) (lines_of (bytes ++ more)) settings old.given reads.kept read);
        sound = last.1.sound;
      };
      index = index;
      here = text_at old.given (lines_of (bytes ++ more)) (drop new.given (lines_of (bytes ++ more))) after means.line;
    }

-- ---- how many lines there are

-- there is at most one line more than line feeds before the last byte
lines_within : (bs : List ℕ) (n : ℕ) → length bs ≡ n + 1 → length (lines_of bs) ≤ feeds_in (take n bs) + 1
lines_within [] n e = omega arith
lines_within (b ∷ []) n e = by_test (eqb b 10)
  where
    by_test : (t : Bool) → length (cond t ([] ∷ []) ((b ∷ []) ∷ [])) ≤ feeds_in (take n (b ∷ [])) + 1
    by_test true = omega arith
    by_test false = omega arith
lines_within (b ∷ c ∷ cs) zero e = absurd (omega (arith, e))
lines_within (b ∷ c ∷ cs) (suc n) e = by_test (eqb b 10) (lines_of (c ∷ cs)) (lines_within (c ∷ cs) n (omega (arith, e)))
  where
    by_test : (t : Bool) (rest : List (List ℕ)) → length rest ≤ feeds_in (take n (c ∷ cs)) + 1 → length (cond t ([] ∷ rest) (onto_first b rest)) ≤ cond t (suc (feeds_in (take n (c ∷ cs)))) (feeds_in (take n (c ∷ cs))) + 1
    by_test true rest k = omega arith
    by_test false [] k = omega arith
    by_test false (line ∷ rest) k = k

-- no more lines were given than an input may have
pub few_lines : (state : LinesState) (bytes : List ℕ) → HasTaken state bytes → state.given ≤ MAX_LINES
few_lines state bytes h = by_front h.front refl
  where
    by_front : (front : List ℕ) → h.front ≡ front → state.given ≤ MAX_LINES
    by_front [] e =
        let given : state.given ≡ 0 = h.lines ∙ ap (λ (bs : List ℕ). length (lines_of bs)) e in
        omega arith
    by_front (b ∷ bs) e =
        let long : length h.front ≡ suc (length bs) = ap length e in
        let place : ℕ = length h.front - 1 in
        let sound : HasNoLineFault bytes place = h.sound place (omega arith) in
        let front : take place bytes ≡ take place h.front = ap (take place) h.parts ∙ take-append-le place h.front state.pending (omega arith) in
        let same : feeds_in (take place bytes) ≡ feeds_in (take place h.front) = ap feeds_in front in
        let lines : length (lines_of h.front) ≤ feeds_in (take place h.front) + 1 = lines_within h.front place (omega arith) in
        by_many place sound same lines (cases_lt (feeds_in (take place bytes)) MAX_LINES)
      where
        by_many : (place : ℕ) → HasNoLineFault bytes place → feeds_in (take place bytes) ≡ feeds_in (take place h.front) → length (lines_of h.front) ≤ feeds_in (take place h.front) + 1 → (feeds_in (take place bytes) < MAX_LINES) ⊎ (MAX_LINES ≤ feeds_in (take place bytes)) → state.given ≤ MAX_LINES
        by_many place sound same lines (inl few) = omega (arith, h.lines)
        by_many place sound same lines (inr many) = absurd (sound.1 many)
