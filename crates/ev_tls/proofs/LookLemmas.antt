-- What is found at ascending places that hold all that are due is all that is due.
use Rattle.std.proofs.Common.{◌≡◌, ℕ, suc, ◌+◌, ◌-◌, ◌<◌, ◌≤◌, ◌⊎◌, inl, inr, Bool, true, false, not, cond, ◌||◌, ◌&&◌, List, [], ◌∷◌, ◌++◌, map, filter, Option, None, Some, nat_eq, refl, sym, ap, ap₂, ◌∙◌, subst, arith}
use Rattle.std.specs.Prelude.{slice_get}
use Rattle.std.specs.BTreeMap.{is_at}
use Rattle.std.specs.List.{list_any, flat_map, enumerate_from, AllByRecursion}
use Rattle.std.specs.List.Sorted.{IsStrictlySortedBy}
use Rattle.std.specs.Ordering.{nat_cmp}
use Rattle.std.specs.declared.cmp.Ordering.TheVariants.{Less}
use Rattle.std.proofs.Math.Bool.{or-true}
use Rattle.std.proofs.lemmas.Bool.{cases_lt, false_from_ne_true}
use Rattle.std.proofs.lemmas.Bool.Decides.{nat_tests}
use Rattle.std.specs.Str.{bytes_eq}
use Rattle.indexmap.specs.IndexSet.{IndexSet, contains}
use Rattle.ev_types.specs.Same.{bytes_decide}
use Rattle.ev_types.specs.declared.clusters.Discovery.{Discovery}
use Rattle.ev_types.specs.declared.clusters.Discovery.TheVariants.{Static, Eds, Elsewhere}
use Rattle.ev_expand.specs.Guarding.{Guarded}
use Rattle.ev_tls.specs.declared.awaited.Awaited.TheVariants.{Endpoints}
use Rattle.ev_tls.specs.declared.complete.Complete.{Complete}
use Rattle.ev_tls.specs.declared.known.Values.{Values}
use Rattle.ev_tls.specs.declared.looking.Marked.{Marked}
use Rattle.ev_tls.specs.Awaited.{services_of}
use Rattle.ev_tls.specs.Looking.{Marks, due_among, due_by, due_one, due_parts, due_there, marks_of, may_be_due, stands_under_any, WereServed}
use Rattle.ev_tls.specs.Places.{PlacesKept, stands_under}
use Rattle.ev_tls.specs.Waiting.{is_served}
use Rattle.ev_tls.proofs.TestLemmas.{any_so, both_ways}

-- ascending from this one on
abbrev pub Ascends : ℕ → List ℕ → Type 0
Ascends m [] = Unit {0}
Ascends m (c ∷ cs) = (m ≤ c) × Ascends (c + 1) cs

from_less : (c n : ℕ) → nat_cmp c n ≡ Less → c + 1 ≤ n
from_less c n h = grind arith

all_from : (c : ℕ) (cs : List ℕ) → AllByRecursion (λ (n : ℕ). nat_cmp c n ≡ Less) cs → AllByRecursion (λ (n : ℕ). c + 1 ≤ n) cs
all_from c [] all = tt
all_from c (n ∷ cs) all = (from_less c n all.0, all_from c cs all.1)

pub ascends : (m : ℕ) (cs : List ℕ) → IsStrictlySortedBy nat_cmp cs → AllByRecursion (λ (n : ℕ). m ≤ n) cs → Ascends m cs
unfolding IsStrictlySortedBy
ascends m [] up all = tt
ascends m (c ∷ cs) up all = (all.0, ascends (c + 1) cs up.1 (all_from c cs up.0))

pub all_from_zero : (cs : List ℕ) → AllByRecursion (λ (n : ℕ). 0 ≤ n) cs
all_from_zero [] = tt
all_from_zero (c ∷ cs) = (omega arith, all_from_zero cs)

not_same : (m c : ℕ) → m < c → nat_eq m c ≡ false
not_same m c h = grind (arith, nat_tests)

not_above : (m c : ℕ) → c < m → nat_eq m c ≡ false
not_above m c h = grind (arith, nat_tests)

not_below : (m k : ℕ) (cs : List ℕ) → m < k → Ascends k cs → list_any (nat_eq m) cs ≡ false
not_below m k [] h up = refl
not_below m k (c ∷ cs) h up = ap₂ (λ (a b : Bool). a || b) (not_same m c (omega (arith, up.0))) (not_below m (c + 1) cs (omega (arith, up.0)) up.1)

module _ {A D : Type 0} (is_due : ℕ × A → Bool) (part : ℕ × A → D) where
  abbrev pub at_place : ℕ → Option A → List D
  at_place place None = []
  at_place place (Some x) = cond (is_due (place, x)) (part (place, x) ∷ []) []

  -- nothing is at these places
  none_there : (at : ℕ → Option A) (m : ℕ) (cs : List ℕ) → ((n : ℕ) → m ≤ n → at n ≡ None) → Ascends m cs → flat_map (λ (n : ℕ). at_place n (at n)) cs ≡ []
  none_there at m [] none up = refl
  none_there at m (c ∷ cs) none up =
      ap₂ (λ (xs ys : List D). xs ++ ys) (ap (at_place c) (none c up.0)) (none_there at (c + 1) cs (λ n h. none n (omega (arith, up.0))) up.1)

  first_at : (b : Bool) (x : ℕ × A) (rest : List D) (others : List (ℕ × A)) → rest ≡ map part others → cond b (part x ∷ []) [] ++ rest ≡ map part (cond b (x ∷ others) others)
  first_at true x rest others h = ap (λ (ys : List D). part x ∷ ys) h
  first_at false x rest others h = h

  skips : (b : Bool) (x : ℕ × A) (others : List (ℕ × A)) (found : List D) → b ≡ false → found ≡ map part others → found ≡ map part (cond b (x ∷ others) others)
  skips true x others found none h = absurd (cc)
  skips false x others found none h = h

  last_of : (a b : Bool) → a ≡ false → (a || b) ≡ true → b ≡ true
  last_of true b h k = absurd (cc)
  last_of false b h k = k

  -- what is found at these places
  abbrev found_at : (ℕ → Option A) → List ℕ → List D
  found_at at cs = flat_map (λ (n : ℕ). at_place n (at n)) cs

  -- what is due of these, which are from a place on, has its place among the others
  abbrev Holds : ℕ → List A → List ℕ → Type 0
  Holds m xs cs = (i : ℕ) (x : A) → slice_get xs i ≡ Some x → is_due (m + i, x) ≡ true → list_any (nat_eq (m + i)) cs ≡ true

  holds_first : (m : ℕ) (x : A) (xs : List A) (cs : List ℕ) → Holds m (x ∷ xs) cs → is_due (m, x) ≡ true → list_any (nat_eq m) cs ≡ true
  holds_first m x xs cs holds = let e : m + 0 ≡ m = omega arith in subst (λ (k : ℕ). is_due (k, x) ≡ true → list_any (nat_eq k) cs ≡ true) e (holds 0 x refl)

  holds_others : (m : ℕ) (x : A) (xs : List A) (cs : List ℕ) → Holds m (x ∷ xs) cs → Holds (m + 1) xs cs
  holds_others m x xs cs holds i y here = let e : m + suc i ≡ m + 1 + i = omega arith in subst (λ (k : ℕ). is_due (k, y) ≡ true → list_any (nat_eq k) cs ≡ true) e (holds (suc i) y here)

  others_at : (at : ℕ → Option A) (m : ℕ) (x : A) (xs : List A) → ((i : ℕ) → at (m + i) ≡ slice_get (x ∷ xs) i) → (i : ℕ) → at (m + 1 + i) ≡ slice_get xs i
  others_at at m x xs is i = let e : m + 1 + i ≡ m + suc i = omega arith in ap at e ∙ is (suc i)

  pub looked : (at : ℕ → Option A) (m : ℕ) (xs : List A) (cs : List ℕ) → ((i : ℕ) → at (m + i) ≡ slice_get xs i) → Ascends m cs → Holds m xs cs
      → found_at at cs ≡ map part (filter is_due (enumerate_from m xs))
  looked at m [] cs is up holds = none_there at m cs (λ n h. let e : n ≡ m + (n - m) = omega (arith, h) in ap at e ∙ is (n - m)) up
  looked at m (x ∷ xs) [] is up holds =
      skips (is_due (m, x)) (m, x) (filter is_due (enumerate_from (m + 1) xs)) [] (false_from_ne_true (is_due (m, x)) (λ due. both_ways false (holds_first m x xs [] holds due) refl))
      (looked at (m + 1) xs [] (others_at at m x xs is) tt (holds_others m x xs [] holds))
  looked at m (x ∷ xs) (c ∷ cs) is up holds =
      by (cases_lt m c) (λ up'. looked at (m + 1) xs (c ∷ cs) (others_at at m x xs is) up' (holds_others m x xs (c ∷ cs) holds))
      (λ up' holds'. looked at (m + 1) xs cs (others_at at m x xs is) up' holds')
    where
      by : (m < c) ⊎ (c ≤ m) → (Ascends (m + 1) (c ∷ cs) → found_at at (c ∷ cs) ≡ map part (filter is_due (enumerate_from (m + 1) xs)))
          → (Ascends (m + 1) cs → Holds (m + 1) xs cs → found_at at cs ≡ map part (filter is_due (enumerate_from (m + 1) xs)))
          → found_at at (c ∷ cs) ≡ map part (filter is_due (enumerate_from m (x ∷ xs)))
      by (inl below) later now =
          let up' : Ascends (m + 1) (c ∷ cs) = (omega (arith, below), up.1) in
          skips (is_due (m, x)) (m, x) (filter is_due (enumerate_from (m + 1) xs)) (found_at at (c ∷ cs))
          (false_from_ne_true (is_due (m, x)) (λ due. both_ways (list_any (nat_eq m) (c ∷ cs)) (holds_first m x xs (c ∷ cs) holds due) (not_below m (m + 1) (c ∷ cs) (omega arith) up')))
          (later up')
      by (inr above) later now =
          let same : c ≡ m = omega (arith, above, up.0) in
          let zero_more : c ≡ m + 0 = omega (arith, same) in
          let one_more : c + 1 ≡ m + 1 = omega (arith, same) in
          let here : at c ≡ Some x = ap at zero_more ∙ is 0 in
          ap (λ (ys : List D). ys ++ found_at at cs) (ap₂ (λ (n : ℕ) (o : Option A). at_place n o) same here)
          ∙ first_at (is_due (m, x)) (m, x) (found_at at cs) (filter is_due (enumerate_from (m + 1) xs))
          (now (subst (λ (k : ℕ). Ascends k cs) one_more up.1)
          (λ i y there due. last_of (nat_eq (m + 1 + i) c) (list_any (nat_eq (m + 1 + i)) cs) (not_above (m + 1 + i) c (omega (arith, same))) (holds_others m x xs (c ∷ cs) holds i y there due)))

-- ---- the places that may be due hold all that are

flat_same : {A B : Type 0} (f g : A → List B) (xs : List A) → ((x : A) → f x ≡ g x) → flat_map f xs ≡ flat_map g xs
flat_same f g [] h = refl
flat_same f g (x ∷ xs) h = ap₂ (λ (ys zs : List _). ys ++ zs) (h x) (flat_same f g xs h)

there_same : (marks : Marks) (values : Values) (n : ℕ) (o : Option Guarded) → due_there marks values n o ≡ at_place (due_by marks) (due_parts values) n o
there_same marks values n None = refl
there_same marks values n (Some g) = refl

at_same : (n k : ℕ) → is_at (nat_cmp n) k ≡ nat_eq n k
at_same n k = grind (arith, nat_tests)

has_same : (n : ℕ) (cs : List ℕ) → list_any (nat_eq n) cs ≡ list_any (is_at (nat_cmp n)) cs
has_same n [] = refl
has_same n (c ∷ cs) = ap₂ (λ (a b : Bool). a || b) (sym (at_same n c)) (has_same n cs)

pub found_due : (marks : Marks) (values : Values) (gs : List Guarded) (cs : List ℕ) (may : ℕ → Bool) → IsStrictlySortedBy nat_cmp cs → ((n : ℕ) → list_any (is_at (nat_cmp n)) cs ≡ may n)
    → ((n : ℕ) (g : Guarded) → slice_get gs n ≡ Some g → due_by marks (n, g) ≡ true → may n ≡ true)
    → flat_map (due_one marks values gs) cs ≡ due_among marks values (enumerate_from 0 gs)
found_due marks values gs cs may up has holds =
    flat_same (due_one marks values gs) (λ (n : ℕ). at_place (due_by marks) (due_parts values) n (slice_get gs n)) cs (λ n. there_same marks values n (slice_get gs n))
    ∙ looked (due_by marks) (due_parts values) (slice_get gs) 0 gs cs (λ i. let e : 0 + i ≡ i = omega arith in ap (slice_get gs) e) (ascends 0 cs up (all_from_zero cs))
    (λ i g here. let e : i ≡ 0 + i = omega arith in
    subst (λ (k : ℕ). due_by marks (k, g) ≡ true → list_any (nat_eq k) cs ≡ true) e (λ due. has_same i cs ∙ has i ∙ holds i g here due))

given_served : {S : Type 0} (given : IndexSet (List ℕ) S) (served : PlacesKept) (n : ℕ) (d : Discovery) → is_served served n d ≡ true
    → list_any (contains bytes_eq given) (services_of d) ≡ true → stands_under_any served given.keys n ≡ true
given_served {S} given served n (Static rows) all any = absurd (cc)
given_served {S} given served n Elsewhere all any = absurd (cc)
given_served {S} given served n (Eds service limited fresh) all any =
    any_so (bytes_eq service) (λ (name : List ℕ). stands_under served (Endpoints name) n)
    (λ name same. ap (λ (x : List ℕ). stands_under served (Endpoints x) n) (sym ((bytes_decide service name).0 same)) ∙ alone (stands_under served (Endpoints service) n) all) given.keys
    (only (contains bytes_eq given service) any)
  where
    alone : (b : Bool) → (b && true) ≡ true → b ≡ true
    alone true h = refl
    alone false h = h

    only : (b : Bool) → (b || false) ≡ true → b ≡ true
    only true h = refl
    only false h = h

covered : (c w f o i v s : Bool) → (w ≡ true → v ≡ true → s ≡ true) → (c && (w || f) && (o || i || not w || v)) ≡ true → (f || i || s || (o && w)) ≡ true
covered c w true o i v s so h = refl
covered false w false o i v s so h = absurd (cc)
covered true false false o i v s so h = absurd (cc)
covered true true false o true v s so h = refl
covered true true false true false v s so h = or-true s
covered true true false false false v s so h = ap (λ (b : Bool). b || false) (so refl h)

pub all_held : (complete : Complete) (marked : Marked) (gs : List Guarded) → WereServed complete gs → (n : ℕ) (g : Guarded) → slice_get gs n ≡ Some g → due_by (marks_of complete marked) (n, g) ≡ true
    → may_be_due complete marked n ≡ true
all_held complete marked gs served n g here =
    covered marked.connected (contains nat_eq complete.places n) (contains nat_eq marked.finished n) marked.opened (contains nat_eq marked.items n) _ _
    (λ was given. given_served marked.given complete.served n g.key.cluster.discovery (served n g here was) given)
