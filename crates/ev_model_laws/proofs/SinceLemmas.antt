-- Entries that come after the one that made a generation:
-- what one of them has told stays told with more entries, and was told since an earlier generation too.
use Rattle.std.proofs.Common.{◌≡◌, ℕ, zero, suc, ◌+◌, ◌-◌, ◌≤◌, ◌<◌, Bool, true, false, cond, List, [], ◌∷◌, ◌++◌, length, length-append, arith}
use Rattle.std.specs.Prelude.{nat_le}
use Rattle.std.specs.List.{list_any}
use Rattle.std.proofs.lemmas.Bool.{false≢true, cond_both, or_left, or_right, leb-true, leb-false}
use Rattle.ev_types.specs.declared.events.Entry.{Entry}
use Rattle.ev_model.specs.Entries.{made_in, made_rows, entries_since}
use Rattle.ev_model_laws.specs.Kept.{entries_after}
use Rattle.ev_model_laws.proofs.AnyLemmas.{any_first, any_second}

module _ (p : Entry → Bool) where
  since_any : (number : ℕ) (entries : List Entry) → list_any p (entries_since number entries) ≡ true → list_any p entries ≡ true
  since_any number [] h = h
  since_any number (entry ∷ entries) h =
      let made : ℕ = length (made_in entry.event entry.answer) in
      or_right (p entry) (list_any p entries)
      (cond_both (nat_le number made) entries (entries_since (number - made) entries)
      (λ (es : List Entry). list_any p es ≡ true → list_any p entries ≡ true)
      (λ le here. here) (λ gt here. since_any (number - made) entries here) h)

  either_more : (le : Bool) (now later more further : List Entry) → (list_any p now ≡ true → list_any p more ≡ true)
      → (list_any p later ≡ true → list_any p further ≡ true)
      → list_any p (cond le now later) ≡ true → list_any p (cond le more further) ≡ true
  either_more true now later more further first second h = first h
  either_more false now later more further first second h = second h

  since_more : (number : ℕ) (entries more : List Entry) → list_any p (entries_since number entries) ≡ true
      → list_any p (entries_since number (entries ++ more)) ≡ true
  since_more number [] more h = absurd (false≢true h)
  since_more number (entry ∷ entries) more h =
      let made : ℕ = length (made_in entry.event entry.answer) in
      either_more (nat_le number made) entries (entries_since (number - made) entries) (entries ++ more)
      (entries_since (number - made) (entries ++ more))
      (any_first p entries more) (since_more (number - made) entries more) h

  since_new : (number : ℕ) (entries : List Entry) (entry : Entry) → 0 < number → number ≤ length (made_rows entries) → p entry ≡ true
      → list_any p (entries_since number (entries ++ entry ∷ [])) ≡ true
  since_new number [] entry low high is = absurd (omega (arith, low, high))
  since_new number (first ∷ entries) entry low high is =
      let made : ℕ = length (made_in first.event first.answer) in
      let all : length (made_rows (first ∷ entries)) ≡ made + length (made_rows entries) =
      length-append (made_in first.event first.answer) (made_rows entries) in
      cond_both (nat_le number made) (entries ++ entry ∷ []) (entries_since (number - made) (entries ++ entry ∷ []))
      (λ (es : List Entry). list_any p es ≡ true)
      (λ le. any_second p entries (entry ∷ []) (or_left (p entry) false is))
      (λ gt. let lt : made < number = leb-false number made gt in
      since_new (number - made) entries entry (omega (arith, lt)) (omega (arith, lt, all, high)) is)

  since_earlier : (low high : ℕ) (entries : List Entry) → low ≤ high → list_any p (entries_since high entries) ≡ true
      → list_any p (entries_since low entries) ≡ true
  since_earlier low high [] le h = h
  since_earlier low high (entry ∷ entries) le h =
      let made : ℕ = length (made_in entry.event entry.answer) in
      cond_both (nat_le low made) entries (entries_since (low - made) entries) (λ (es : List Entry). list_any p es ≡ true)
      (λ first.
      cond_both (nat_le high made) entries (entries_since (high - made) entries)
      (λ (es : List Entry). list_any p es ≡ true → list_any p entries ≡ true)
      (λ second here. here) (λ second here. since_any (high - made) entries here) h)
      (λ first.
      cond_both (nat_le high made) entries (entries_since (high - made) entries)
      (λ (es : List Entry). list_any p es ≡ true → list_any p (entries_since (low - made) entries) ≡ true)
      (λ second here. absurd (omega (arith, le, leb-false low made first, leb-true high made second)))
      (λ second here. since_earlier (low - made) (high - made) entries (omega (arith, le)) here)
      h)

  -- what one of the entries after a generation passes, one of all passes
  pub after_any : (number : ℕ) (entries : List Entry) → list_any p (entries_after number entries) ≡ true → list_any p entries ≡ true
  after_any zero entries h = h
  after_any (suc place) entries h = since_any (suc place) entries h

  -- so does one where there are more entries
  pub after_more : (number : ℕ) (entries more : List Entry) → list_any p (entries_after number entries) ≡ true
      → list_any p (entries_after number (entries ++ more)) ≡ true
  after_more zero entries more h = any_first p entries more h
  after_more (suc place) entries more h = since_more (suc place) entries more h

  -- a last entry is after each generation that those before it made
  pub after_new : (number : ℕ) (entries : List Entry) (entry : Entry) → number ≤ length (made_rows entries) → p entry ≡ true
      → list_any p (entries_after number (entries ++ entry ∷ [])) ≡ true
  after_new zero entries entry high is = any_second p entries (entry ∷ []) (or_left (p entry) false is)
  after_new (suc place) entries entry high is = since_new (suc place) entries entry (omega arith) high is

  -- what is after a generation is after an earlier one
  pub after_since : (number made : ℕ) (entries : List Entry) → 0 < number → number ≤ made → list_any p (entries_after made entries) ≡ true
      → list_any p (entries_since number entries) ≡ true
  after_since number zero entries low high h = absurd (omega (arith, low, high))
  after_since number (suc place) entries low high h = since_earlier number (suc place) entries high h
