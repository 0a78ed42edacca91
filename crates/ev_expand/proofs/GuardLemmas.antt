-- A guarded key is at its place among what is guarded, by any rules.
use Rattle.std.proofs.Common.{◌≡◌, ◌∙◌, inl, ℕ, suc, ◌+◌, ◌<◌, Bool, true, false, cond, not, ◌||◌, List, [], ◌∷◌, length, filter, flat_map, Some, option_map, refl, sym, ap, subst, arith}
use Rattle.std.specs.Prelude.{slice_get}
use Rattle.std.specs.List.{list_any}
use Rattle.std.proofs.lemmas.Bool.{or_left, or_right}
use Rattle.serde_json.specs.Data.{Data}
use Rattle.ev_model_laws.proofs.AnyLemmas.{or_so}
use Rattle.ev_model_laws.proofs.OperationLists.{IsIn, any_at, in_back}
use Rattle.ev_expand.specs.declared.keys.Key.{Key}
use Rattle.ev_expand.specs.Fronts.{Front, fronts, up_to}
use Rattle.ev_expand.specs.Guarding.{Guard, Guarded, clusters_in, each_once, guarded_by, guarded_in, guarded_of, guarded_same, place_in}
use Rattle.ev_expand.specs.Keys.{key_decides, key_same}
use Rattle.ev_expand.proofs.DistinctLemmas.{place_has}
use Rattle.ev_expand.proofs.DueLemmas.{guarded_stays}
use Rattle.ev_expand.proofs.FrontLawLemmas.{up_to_at}
use Rattle.ev_expand.proofs.ListLemmas.{flat_in, found_in, got, in_any, in_kept}

-- a guarded resource's key is guarded in its line
pub guarded_there : (guard : Guard) (line entry : Data) (key : Key) → IsIn entry (clusters_in guard.profile line) → guard.key_of entry ≡ Some key
    → IsIn (record { key = key; own = guard.own_of entry }) (guarded_in guard line)
guarded_there guard line entry key is h =
    found_in (guarded_of guard) (clusters_in guard.profile line) entry (record { key = key; own = guard.own_of entry }) is
    (ap (option_map (λ (k : Key). record { key = k; own = guard.own_of entry })) h)

pub once_has : (key : Key) (gs : List Guarded) → list_any (λ (g : Guarded). key_same key g.key) gs ≡ true → list_any (λ (g : Guarded). key_same key g.key) (each_once gs) ≡ true
once_has key [] h = h
once_has key (first ∷ gs) h =
    let test : Guarded → Bool = λ g. key_same key g.key in
    let keeps : Guarded → Bool = λ g. not (guarded_same g first) in
    or_so (test first) (list_any test gs)
    (λ here. or_left (test first) (list_any test (filter keeps (each_once gs))) here)
    (λ rest.
    let one = in_any test (each_once gs) (once_has key gs rest) in
    by one.0 (guarded_same one.0 first) refl one.2 one.1) h
  where
    by : (g : Guarded) (b : Bool) → guarded_same g first ≡ b → key_same key g.key ≡ true → IsIn g (each_once gs)
        → (key_same key first.key || list_any (λ (x : Guarded). key_same key x.key) (filter (λ (x : Guarded). not (guarded_same x first)) (each_once gs))) ≡ true
    by g true is same among =
        or_left (key_same key first.key) (list_any (λ (x : Guarded). key_same key x.key) (filter (λ (x : Guarded). not (guarded_same x first)) (each_once gs)))
        ((key_decides key first.key).1 ((key_decides key g.key).0 same ∙ (key_decides g.key first.key).0 is))
    by g false is same among =
        or_right (key_same key first.key) (list_any (λ (x : Guarded). key_same key x.key) (filter (λ (x : Guarded). not (guarded_same x first)) (each_once gs)))
        (any_at (λ (x : Guarded). key_same key x.key) g (filter (λ (x : Guarded). not (guarded_same x first)) (each_once gs))
        (in_kept (λ (x : Guarded). not (guarded_same x first)) (each_once gs) g among (ap not is)) same)

within_at : (b : Bool) (n m : ℕ) → (b ≡ false → n < m) → cond (not b) (1 + n) 0 < suc m
within_at true n m less = omega arith
within_at false n m less = omega (arith, less refl)

pub place_within : (key : Key) (gs : List Guarded) → list_any (λ (g : Guarded). key_same key g.key) gs ≡ true → place_in gs key < length gs
place_within key [] h = absurd (cc)
place_within key (g ∷ gs) h =
    within_at (key_same key g.key) (place_in gs key) (length gs) (λ none. place_within key gs (sym (ap (λ b. b || list_any (λ (x : Guarded). key_same key x.key) gs) none) ∙ h))

-- the key of a guarded resource of a line is at its place in the whole input
pub record IsGuardedAt (guard : Guard) (lines : List Data) (place : ℕ) (key : Key) : Type 0 where
  pub guarded : Guarded
  pub there : slice_get (guarded_by guard lines) place ≡ Some guarded
  pub same : key ≡ guarded.key

pub guarded_at_place : (guard : Guard) (lines : List Data) (index : ℕ) (front : Front) (entry : Data) (key : Key) → slice_get (fronts lines) index ≡ Some front
    → IsIn entry (clusters_in guard.profile front.line) → guard.key_of entry ≡ Some key
    → IsGuardedAt guard lines (place_in (guarded_by guard (up_to front)) key) key
guarded_at_place guard lines index front entry key there is h =
    let gs : List Guarded = guarded_by guard (up_to front) in
    let one : Guarded = record { key = key; own = guard.own_of entry } in
    let among : IsIn one (flat_map (guarded_in guard) (up_to front)) =
    flat_in (guarded_in guard) (up_to front) front.line one (in_back front.line front.before (front.line ∷ []) (inl refl)) (guarded_there guard front.line entry key is h) in
    let seen : list_any (λ (g : Guarded). key_same key g.key) gs ≡ true =
    once_has key (flat_map (guarded_in guard) (up_to front))
    (any_at (λ (g : Guarded). key_same key g.key) one (flat_map (guarded_in guard) (up_to front)) among ((key_decides key key).1 refl)) in
    let found = got gs (place_in gs key) (place_within key gs seen) in
    record {
      guarded = found.0;
      there = guarded_stays guard lines (index + 1) (place_in gs key) found.0
          (subst (λ ls. slice_get (guarded_by guard ls) (place_in gs key) ≡ Some found.0) (up_to_at lines index front there) found.1);
      same = (key_decides key found.0.key).0 (place_has gs key (place_in gs key) found.0 refl found.1);
    }
