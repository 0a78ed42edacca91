-- The names of some resources, and of one more.
use Rattle.std.proofs.Common.{◌≡◌, ℕ, ◌+◌, ◌<◌, Bool, true, false, ◌&&◌, ◌||◌, cond, List, [], ◌∷◌, ◌++◌, length, filter, take, get_or, refl, ap, sym, ◌∙◌, length-append, arith}
use Rattle.std.specs.Prelude.{nat_le}
use Rattle.std.specs.Str.{bytes_eq}
use Rattle.std.proofs.lemmas.Grind.{common_steps}
use Rattle.std.proofs.lemmas.List.Elements.{filter-append}
use Rattle.std.proofs.lemmas.Slice.Eq.{bytes_eq-Decides}
use Rattle.ev_types.specs.Items.{ItemParts}
use Rattle.ev_model.specs.Verdicts.{items_named}

one_more : (items : List ItemParts) (i : ℕ) (item : ItemParts) → i < length items → item ≡ get_or items i item → take (i + 1) items ≡ take i items ++ item ∷ []
one_more items i item within is = grind (arith, common_steps)

-- how many have the name, with one more
abbrev more_count : Bool → ℕ → ℕ
more_count same n = cond same (n + 1) n

counted_more : (name : List ℕ) (items : List ItemParts) (i : ℕ) (item : ItemParts) → i < length items → item ≡ get_or items i item
    → length (items_named name (take (i + 1) items)) ≡ more_count (bytes_eq item.name name) (length (items_named name (take i items)))
counted_more name items i item within is =
    let named = λ (it : ItemParts). bytes_eq it.name name in
    ap (λ its. length (filter named its)) (one_more items i item within is)
    ∙ ap length (filter-append named (take i items) (item ∷ []))
    ∙ length-append (filter named (take i items)) (filter named (item ∷ []))
    ∙ by (bytes_eq item.name name) refl
  where
    by : (t : Bool) → bytes_eq item.name name ≡ t
        → length (items_named name (take i items)) + length (items_named name (item ∷ [])) ≡ more_count t (length (items_named name (take i items)))
    by true at = simp (at) refl
    by false at = simp (at) (grind arith)

once_by : (same : Bool) (n : ℕ) → nat_le 1 (more_count same n) ≡ (same || nat_le 1 n)
once_by true n = grind (arith, common_steps)
once_by false n = refl

twice_by : (same : Bool) (n : ℕ) → nat_le 2 (more_count same n) ≡ ((same && nat_le 1 n) || nat_le 2 n)
twice_by true n = grind (arith, common_steps)
twice_by false n = refl

-- the names that some resources have, with one more
pub named_more : (items : List ItemParts) (i : ℕ) (item : ItemParts) (text : List ℕ) (old new : List ℕ → Bool)
    → i < length items → item ≡ get_or items i item → text ≡ item.name
    → ((q : List ℕ) → new q ≡ (bytes_eq text q || old q)) → ((q : List ℕ) → old q ≡ nat_le 1 (length (items_named q (take i items))))
    → (q : List ℕ) → new q ≡ nat_le 1 (length (items_named q (take (i + 1) items)))
named_more items i item text old new within is named noted was q =
    noted q
    ∙ (λ j. bytes_eq (named j) q || was q j)
    ∙ sym (once_by (bytes_eq item.name q) (length (items_named q (take i items))))
    ∙ sym (ap (nat_le 1) (counted_more q items i item within is))

at_same : (text q : List ℕ) (old : List ℕ → Bool) → (bytes_eq text q && old text) ≡ (bytes_eq text q && old q)
at_same text q old = by (bytes_eq text q) (bytes_eq-Decides text q).0
  where
    by : (t : Bool) → (t ≡ true → text ≡ q) → (t && old text) ≡ (t && old q)
    by true same = ap old (same refl)
    by false same = refl

-- the names that two or more have, with one more
pub twice_more : (items : List ItemParts) (i : ℕ) (item : ItemParts) (text : List ℕ) (named old new : List ℕ → Bool)
    → i < length items → item ≡ get_or items i item → text ≡ item.name
    → ((q : List ℕ) → new q ≡ ((bytes_eq text q && named text) || old q))
    → ((q : List ℕ) → named q ≡ nat_le 1 (length (items_named q (take i items))))
    → ((q : List ℕ) → old q ≡ nat_le 2 (length (items_named q (take i items))))
    → (q : List ℕ) → new q ≡ nat_le 2 (length (items_named q (take (i + 1) items)))
twice_more items i item text named old new within is text_is noted once was q =
    noted q
    ∙ ap (λ b. b || old q) (at_same text q named)
    ∙ (λ j. (bytes_eq (text_is j) q && once q j) || was q j)
    ∙ sym (twice_by (bytes_eq item.name q) (length (items_named q (take i items))))
    ∙ sym (ap (nat_le 2) (counted_more q items i item within is))
