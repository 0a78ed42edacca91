-- Places that go on.
use Rattle.std.proofs.Common.{◌≡◌, ℕ, zero, suc, ◌+◌, ◌<◌, ◌⊎◌, inl, inr, Bool, true, false, not, cond, ◌||◌, ◌&&◌, List, [], ◌∷◌, length, get_or, set, take, Option, Some, None, option_map, unwrap_or, nat_eq, refl, sym, ap, ap₂, ◌∙◌}
use Rattle.std.specs.Prelude.{slice_get}
use Rattle.std.specs.List.{list_any, list_all, find}
use Rattle.std.specs.Str.{bytes_eq}
use Rattle.indexmap.specs.IndexSet.{IndexSet, contains}
use Rattle.ev_types.specs.Same.{numbers_decide}
use Rattle.ev_expand.specs.Guarding.{Guarded}
use Rattle.ev_tls.specs.declared.awaited.Awaited.{Awaited}
use Rattle.ev_tls.specs.declared.known.Told.{Told}
use Rattle.ev_tls.specs.declared.waiting.Waiting.{Waiting}
use Rattle.ev_tls.specs.Awaited.{awaited_by}
use Rattle.ev_tls.specs.Known.{first_told, has_told, next_of}
use Rattle.ev_tls.specs.Places.{PlacesKept, has_place, stands_under, Enters}
use Rattle.ev_tls.specs.Waiting.{completed, complete_at, is_waiting, HavePassed, Advances, AdvancesOne}
use Rattle.ev_tls.proofs.KnownLemmas.{front_passes}
use Rattle.ev_tls.proofs.PlaceLemmas.{number_swapped, stands_own, stands_still}
use Rattle.ev_tls.proofs.TestLemmas.{or_first, any_more, any_so, and_so, some_same}

-- ---- the first that wasn't reported

found_some : (t : Awaited → Bool) (xs : List Awaited) (a : Awaited) → find (λ (x : Awaited). not (t x)) xs ≡ Some a → list_all t xs ≡ false
found_some t [] a h = absurd (cc)
found_some t (x ∷ xs) a h = by (t x) h (found_some t xs a)
  where
    by : (b : Bool) → cond (not b) (Some x) (find (λ (x : Awaited). not (t x)) xs) ≡ Some a → (find (λ (x : Awaited). not (t x)) xs ≡ Some a → list_all t xs ≡ false) → (b && list_all t xs) ≡ false
    by true at rest = rest at
    by false at rest = refl

found_none : (t : Awaited → Bool) (xs : List Awaited) → find (λ (x : Awaited). not (t x)) xs ≡ None → list_all t xs ≡ true
found_none t [] h = refl
found_none t (x ∷ xs) h = by (t x) h (found_none t xs)
  where
    by : (b : Bool) → cond (not b) (Some x) (find (λ (x : Awaited). not (t x)) xs) ≡ None → (find (λ (x : Awaited). not (t x)) xs ≡ None → list_all t xs ≡ true) → (b && list_all t xs) ≡ true
    by true at rest = rest at
    by false at rest = absurd (cc)

found_stands : (q s : Awaited → Bool) (xs : List Awaited) (a : Awaited) → find q xs ≡ Some a → s a ≡ true → list_any (λ (x : Awaited). q x && s x) xs ≡ true
found_stands q s [] a h stands = absurd (cc)
found_stands q s (x ∷ xs) a h stands = by (q x) h (λ at. found_stands q s xs a at stands)
  where
    by : (b : Bool) → cond b (Some x) (find q xs) ≡ Some a → (find q xs ≡ Some a → list_any (λ (y : Awaited). q y && s y) xs ≡ true)
        → ((b && s x) || list_any (λ (y : Awaited). q y && s y) xs) ≡ true
    by true at rest = or_first (s x) (list_any (λ (y : Awaited). q y && s y) xs) (ap s (some_same x a at) ∙ stands)
    by false at rest = rest at

-- ---- one place

set_at : (xs : List ℕ) (i v n : ℕ) → (get_or (set xs i v) n 0 ≡ get_or xs n 0) ⊎ ((n ≡ i) × (get_or (set xs i v) n 0 ≡ v))
set_at [] i v n = inl refl
set_at (x ∷ xs) zero v zero = inr (refl, refl)
set_at (x ∷ xs) zero v (suc n) = inl refl
set_at (x ∷ xs) (suc i) v zero = inl refl
set_at (x ∷ xs) (suc i) v (suc n) = one (set_at xs i v n)
  where
    one : (get_or (set xs i v) n 0 ≡ get_or xs n 0) ⊎ ((n ≡ i) × (get_or (set xs i v) n 0 ≡ v)) → (get_or (set xs i v) n 0 ≡ get_or xs n 0) ⊎ ((suc n ≡ suc i) × (get_or (set xs i v) n 0 ≡ v))
    one (inl same) = inl same
    one (inr here) = inr (ap suc here.0, here.1)

-- the count of one place is set
pub passed_set : (told : Told) (gs : List Guarded) (place count : ℕ) (g : Guarded) (old : List ℕ) → slice_get gs place ≡ Some g → count ≡ first_told told g.key.names
    → HavePassed told gs old → HavePassed told gs (set old place count)
passed_set told gs place count g old at is had n x here = by (set_at old place count n)
  where
    p : List ℕ → Bool
    p = contains bytes_eq told.secrets

    by : (get_or (set old place count) n 0 ≡ get_or old n 0) ⊎ ((n ≡ place) × (get_or (set old place count) n 0 ≡ count)) → list_all p (take (get_or (set old place count) n 0) x.key.names) ≡ true
    by (inl same) = ap (λ (m : ℕ). list_all p (take m x.key.names)) same ∙ had n x here
    by (inr one) =
        let own : x ≡ g = some_same x g (sym here ∙ ap (slice_get gs) one.0 ∙ at) in
        ap₂ (λ (m : ℕ) (y : Guarded). list_all p (take m y.key.names)) (one.1 ∙ is) own ∙ front_passes p g.key.names

pub complete_here : (told : Told) (gs : List Guarded) (n : ℕ) (g : Guarded) → slice_get gs n ≡ Some g → complete_at told gs n ≡ completed told g
complete_here told gs n g at = ap (λ (o : Option Guarded). unwrap_or (option_map (completed told) o) false) at

nothing_more : (was same at : Bool) → (same ≡ true → at ≡ false) → was ≡ (was || (same && at))
nothing_more true same at h = refl
nothing_more false true at h = sym (h refl)
nothing_more false false at h = refl

one_finished : (was same at : Bool) → (same ≡ true → at ≡ true) → (same || was) ≡ (was || (same && at))
one_finished true true at h = refl
one_finished true false at h = refl
one_finished false true at h = sym (h refl)
one_finished false false at h = refl

-- a place that isn't complete is put under the first that it still waits for
pub advances_waiting : {S : Type 0} (told : Told) (gs : List Guarded) (place : ℕ) (g : Guarded) (a : Awaited) (before after : Waiting) (finished : IndexSet ℕ S) → slice_get gs place ≡ Some g
    → next_of told g.key ≡ Some a → Enters a place before.under after.under → length after.passed.items ≡ length before.passed.items → HavePassed told gs after.passed.items
    → AdvancesOne told gs place before after finished finished
advances_waiting {S} told gs place g a before after finished at next enters counted passed = record {
  counted = counted;
  passed = passed;
  kept = stands_still a place before.under after.under enters;
  waits = λ x here none. ap (is_waiting told after.under place) (some_same x g (sym here ∙ at))
      ∙ found_stands (λ (y : Awaited). not (has_told told y)) (λ (y : Awaited). stands_under after.under y place) (awaited_by g.key) a next
      (stands_own a place before.under after.under enters);
  finishes = λ n. nothing_more (contains nat_eq finished n) (nat_eq n place) (complete_at told gs n)
      (λ same. ap (complete_at told gs) ((numbers_decide n place).0 same) ∙ complete_here told gs place g at ∙ found_some (has_told told) (awaited_by g.key) a next);
}

-- a place that is complete is finished
pub advances_finished : {S : Type 0} (told : Told) (gs : List Guarded) (place : ℕ) (g : Guarded) (before after : Waiting) (old new : IndexSet ℕ S) → slice_get gs place ≡ Some g
    → next_of told g.key ≡ None → after.under ≡ before.under → length after.passed.items ≡ length before.passed.items → HavePassed told gs after.passed.items
    → ((n : ℕ) → contains nat_eq new n ≡ (nat_eq place n || contains nat_eq old n)) → AdvancesOne told gs place before after old new
advances_finished {S} told gs place g before after old new at next same counted passed put =
    let done : completed told g ≡ true = found_none (has_told told) (awaited_by g.key) next in
    record {
      counted = counted;
      passed = passed;
      kept = λ b n stands. ap (λ (u : PlacesKept). stands_under u b n) same ∙ stands;
      waits = λ x here none. absurd (both (completed told x) (ap (completed told) (some_same x g (sym here ∙ at)) ∙ done) none);
      finishes = λ n. put n ∙ ap (λ (t : Bool). t || contains nat_eq old n) (number_swapped place n)
          ∙ one_finished (contains nat_eq old n) (nat_eq n place) (complete_at told gs n)
          (λ same. ap (complete_at told gs) ((numbers_decide n place).0 same) ∙ complete_here told gs place g at ∙ done);
    }
  where
    both : (b : Bool) → b ≡ true → b ≡ false → ⊥
    both true h k = cc
    both false h k = cc

-- ---- one place more

finished_more : (was has same at : Bool) → was ≡ (has && at) → (was || (same && at)) ≡ ((has || same) && at)
finished_more was true same true h = ap (λ (t : Bool). t || (same && true)) h
finished_more was true true false h = ap (λ (t : Bool). t || false) h
finished_more was true false false h = ap (λ (t : Bool). t || false) h
finished_more was false same at h = ap (λ (t : Bool). t || (same && at)) h

pub advances_more : {S : Type 0} (told : Told) (gs : List Guarded) (places : List ℕ) (i place : ℕ) (before mid after : Waiting) (old new : IndexSet ℕ S) → i < length places
    → place ≡ get_or places i 0 → Advances told gs (take i places) before mid old → AdvancesOne told gs place mid after old new → Advances told gs (take (i + 1) places) before after new
advances_more {S} told gs places i place before mid after old new below is so_far one = record {
  counted = one.counted ∙ so_far.counted;
  passed = one.passed;
  kept = λ a n stands. one.kept a n (so_far.kept a n stands);
  waits = λ n g here has none. by n g here none (has_place (take i places) n) refl (sym (any_more (nat_eq n) places i 0 place below is) ∙ has);
  finishes = λ n. one.finishes n ∙ finished_more (contains nat_eq old n) (has_place (take i places) n) (nat_eq n place) (complete_at told gs n) (so_far.finishes n)
      ∙ ap (λ (t : Bool). t && complete_at told gs n) (sym (any_more (nat_eq n) places i 0 place below is));
}
  where
    by : (n : ℕ) (g : Guarded) → slice_get gs n ≡ Some g → completed told g ≡ false → (t : Bool) → has_place (take i places) n ≡ t → (t || nat_eq n place) ≡ true
        → is_waiting told after.under n g ≡ true
    by n g here none true has h =
        any_so (λ (a : Awaited). not (has_told told a) && stands_under mid.under a n) (λ (a : Awaited). not (has_told told a) && stands_under after.under a n)
        (λ a. and_so (not (has_told told a)) (stands_under mid.under a n) (stands_under after.under a n) (one.kept a n)) (awaited_by g.key) (so_far.waits n g here has none)
    by n g here none false has h =
        let same : n ≡ place = (numbers_decide n place).0 h in
        ap (λ (m : ℕ). is_waiting told after.under m g) same ∙ one.waits g (ap (slice_get gs) (sym same) ∙ here) none
