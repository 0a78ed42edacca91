-- Places that are taken up among the complete ones.
use Rattle.std.proofs.Common.{◌≡◌, ℕ, Bool, true, false, ◌||◌, List, [], ◌∷◌, ◌++◌, map, Some, nat_eq, refl, sym, ap, ap₂, ◌∙◌, Bor}
use Rattle.std.specs.Prelude.{slice_get}
use Rattle.std.specs.List.{list_any}
use Rattle.std.specs.Map.Iter.{deref}
use Rattle.std.proofs.Math.Bool.{or-false}
use Rattle.std.proofs.lemmas.List.{map-append}
use Rattle.std.proofs.lemmas.List.Folds.{list_any-append}
use Rattle.indexmap.specs.IndexSet.{contains}
use Rattle.ev_types.specs.Same.{numbers_decide}
use Rattle.ev_expand.specs.Guarding.{Guarded}
use Rattle.ev_tls.specs.declared.awaited.Awaited.TheVariants.{Endpoints}
use Rattle.ev_tls.specs.declared.complete.Complete.{Complete}
use Rattle.ev_tls.specs.Awaited.{services_of}
use Rattle.ev_tls.specs.Places.{PlacesKept, stands_under, Enters}
use Rattle.ev_tls.specs.Waiting.{EntersAll, EntersOne, is_served}
use Rattle.ev_tls.proofs.PlaceLemmas.{number_swapped, stands_own}
use Rattle.ev_tls.proofs.TestLemmas.{all_so}

-- a place that was put under endpoints is under them
pub serves : (service copied : List ℕ) (place : ℕ) (before after : PlacesKept) → copied ≡ service → Enters (Endpoints copied) place before after
    → stands_under after (Endpoints service) place ≡ true
serves service copied place before after same enters =
    ap (λ (name : List ℕ). stands_under after (Endpoints name) place) (sym same) ∙ stands_own (Endpoints copied) place before after enters

swapped : (a b c : Bool) → (b || (a || c)) ≡ ((a || b) || c)
swapped true true c = refl
swapped true false c = refl
swapped false true c = refl
swapped false false c = refl

-- one more of those that a walk has seen
pub seen_more : {A : Type 0} (p : A → Bool) (xs : List (Bor A)) (x : Bor A) → list_any p (map deref (xs ++ x ∷ [])) ≡ (list_any p (map deref xs) || p x.now)
seen_more {A} p xs x =
    ap (list_any p) (map-append (deref {X = A}) xs (x ∷ [])) ∙ list_any-append p (map deref xs) (x.now ∷ []) ∙ ap (λ (b : Bool). list_any p (map deref xs) || b) (or-false (p x.now))

pub enters_more : (gs : List Guarded) (xs : List (Bor ℕ)) (x : Bor ℕ) (before mid after : Complete) → EntersAll gs (λ (n : ℕ). list_any (nat_eq n) (map deref xs)) before mid → EntersOne gs x.now mid after
    → EntersAll gs (λ (n : ℕ). list_any (nat_eq n) (map deref (xs ++ x ∷ []))) before after
enters_more gs xs x before mid after so_far one = record {
  places = λ n. one.places n ∙ ap₂ (λ (a b : Bool). a || b) (number_swapped x.now n) (so_far.places n)
      ∙ swapped (list_any (nat_eq n) (map deref xs)) (nat_eq n x.now) (contains nat_eq before.places n)
      ∙ ap (λ (b : Bool). b || contains nat_eq before.places n) (sym (seen_more (nat_eq n) xs x));
  kept = λ a n stands. one.kept a n (so_far.kept a n stands);
  served = λ n g here entered. by n g here (list_any (nat_eq n) (map deref xs)) refl (sym (seen_more (nat_eq n) xs x) ∙ entered);
}
  where
    by : (n : ℕ) (g : Guarded) → slice_get gs n ≡ Some g → (t : Bool) → list_any (nat_eq n) (map deref xs) ≡ t → (t || nat_eq n x.now) ≡ true → is_served after.served n g.key.cluster.discovery ≡ true
    by n g here true at h =
        all_so (λ (name : List ℕ). stands_under mid.served (Endpoints name) n) (λ (name : List ℕ). stands_under after.served (Endpoints name) n) (λ name. one.kept (Endpoints name) n)
        (services_of g.key.cluster.discovery) (so_far.served n g here at)
    by n g here false at h =
        let same : n ≡ x.now = (numbers_decide n x.now).0 h in
        ap (λ (m : ℕ). is_served after.served m g.key.cluster.discovery) same ∙ one.served g (ap (slice_get gs) (sym same) ∙ here)
