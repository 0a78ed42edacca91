-- Places that are under names, and those that are woken.
use Rattle.std.proofs.Common.{◌≡◌, ℕ, ◌+◌, ◌<◌, Bool, true, false, cond, ◌||◌, List, [], ◌∷◌, ◌++◌, length, get_or, take, nat_eq, refl, sym, ap, ◌∙◌}
use Rattle.std.specs.List.{list_any}
use Rattle.std.proofs.lemmas.Bool.Decides.{same_from_decides}
use Rattle.std.proofs.lemmas.List.Folds.{list_any-append}
use Rattle.ev_types.specs.Same.{numbers_decide}
use Rattle.ev_tls.specs.declared.awaited.Awaited.{Awaited}
use Rattle.ev_tls.specs.Awaited.{awaited_same, awaited_decides}
use Rattle.ev_tls.specs.Places.{PlacesKept, places_under, has_place, stands_under, Enters, Leaves}
use Rattle.ev_tls.specs.Waiting.{KeepsUnder, Wakes}
use Rattle.ev_tls.proofs.TestLemmas.{or_first, or_second, or_left, or_right, any_more}

pub has_more : (xs ys : List ℕ) (n : ℕ) → has_place (xs ++ ys) n ≡ (has_place xs n || has_place ys n)
has_more xs ys n = list_any-append (nat_eq n) xs ys

pub same_swapped : (a b : Awaited) → awaited_same a b ≡ awaited_same b a
same_swapped a b = same_from_decides (awaited_same a b) (awaited_same b a) (awaited_decides a b) (λ h. sym ((awaited_decides b a).0 h), λ e. (awaited_decides b a).1 (sym e))

pub number_swapped : (a b : ℕ) → nat_eq a b ≡ nat_eq b a
number_swapped a b = same_from_decides (nat_eq a b) (nat_eq b a) (numbers_decide a b) (λ h. sym ((numbers_decide b a).0 h), λ e. (numbers_decide b a).1 (sym e))

-- a place that was put under something is there, and what was there before still is
pub stands_own : (a : Awaited) (place : ℕ) (before after : PlacesKept) → Enters a place before after → stands_under after a place ≡ true
stands_own a place before after enters =
    ap (λ xs. has_place xs place) (enters a) ∙ has_more (places_under before a) (cond (awaited_same a a) (place ∷ []) []) place
    ∙ or_second (stands_under before a place) (has_place (cond (awaited_same a a) (place ∷ []) []) place)
    (ap (λ (b : Bool). has_place (cond b (place ∷ []) []) place) ((awaited_decides a a).1 refl) ∙ or_first (nat_eq place place) false ((numbers_decide place place).1 refl))

pub stands_still : (a : Awaited) (place : ℕ) (before after : PlacesKept) → Enters a place before after → KeepsUnder before after
stands_still a place before after enters b n stands =
    ap (λ xs. has_place xs n) (enters b) ∙ has_more (places_under before b) (cond (awaited_same a b) (place ∷ []) []) n
    ∙ or_first (stands_under before b n) (has_place (cond (awaited_same a b) (place ∷ []) []) n) stands

-- the places that wait for one more
pub wakes_more : (told : List Awaited) (i : ℕ) (b : Awaited) (before mid after : PlacesKept) (old new : List ℕ) → i < length told → b ≡ get_or told i b
    → Wakes (take i told) before mid old → new ≡ old ++ places_under mid b → Leaves b mid after → Wakes (take (i + 1) told) before after new
wakes_more told i b before mid after old new h is so_far put leaves = record {
  taken = λ a n named stands. by_taken a n stands (list_any (awaited_same a) (take i told)) refl (sym (any_more (awaited_same a) told i b b h is) ∙ named);
  left = λ a named.
      let none = sym (any_more (awaited_same a) told i b b h is) ∙ named in
      leaves a ∙ ap (λ t. cond t [] (places_under mid a)) (same_swapped b a ∙ or_right (list_any (awaited_same a) (take i told)) (awaited_same a b) none)
      ∙ so_far.left a (or_left (list_any (awaited_same a) (take i told)) (awaited_same a b) none);
}
  where
    by_taken : (a : Awaited) (n : ℕ) → stands_under before a n ≡ true → (t : Bool) → list_any (awaited_same a) (take i told) ≡ t → (t || awaited_same a b) ≡ true → has_place new n ≡ true
    by_taken a n stands true at named = ap (λ xs. has_place xs n) put ∙ has_more old (places_under mid b) n ∙ or_first (has_place old n) (has_place (places_under mid b) n) (so_far.taken a n at stands)
    by_taken a n stands false at named =
        ap (λ xs. has_place xs n) put ∙ has_more old (places_under mid b) n
        ∙ or_second (has_place old n) (has_place (places_under mid b) n)
        (ap (λ x. has_place (places_under mid x) n) (sym ((awaited_decides a b).0 named)) ∙ ap (λ xs. has_place xs n) (so_far.left a at) ∙ stands)
