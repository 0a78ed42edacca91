-- Each key occurs once among what is guarded, so it is found at its place.
use Rattle.std.proofs.Common.{◌≡◌, ℕ, zero, suc, ◌+◌, ◌<◌, ◌≤◌, Bool, true, false, not, cond, ◌||◌, List, [], ◌∷◌, ◌++◌, length, filter, Some, refl, sym, ap, ◌∙◌, append_assoc, arith}
use Rattle.std.specs.Prelude.{slice_get}
use Rattle.std.specs.List.{list_any}
use Rattle.std.proofs.lemmas.List.{append-nil}
use Rattle.ev_expand.specs.declared.keys.Key.{Key}
use Rattle.ev_expand.specs.Keys.{key_same, key_decides}
use Rattle.ev_expand.specs.Guarding.{Guarded, guarded_same, each_once, place_in}
use Rattle.ev_expand.proofs.NumberLemmas.{once-push}

-- no key occurs twice
abbrev pub AreDistinct : List Guarded → Type 0
AreDistinct [] = Unit {0}
AreDistinct (first ∷ others) = (list_any (λ (g : Guarded). guarded_same g first) others ≡ false) × AreDistinct others

none_at : (b c d : Bool) → (c || d) ≡ false → d ≡ false
none_at b true d h = absurd (cc)
none_at b false d h = h

head_at : (c d : Bool) → (c || d) ≡ false → c ≡ false
head_at true d h = absurd (cc)
head_at false d h = refl

kept_none : (keep : Bool) (c d e : Bool) (x : Guarded) (rest : List Guarded) (q : Guarded → Bool) → q x ≡ c → c ≡ false → list_any q rest ≡ false → list_any q (cond keep (x ∷ rest) rest) ≡ false
kept_none true c d e x rest q is none h = rw (is, none, h)
kept_none false c d e x rest q is none h = h

any_filtered : (p q : Guarded → Bool) (xs : List Guarded) → list_any q xs ≡ false → list_any q (filter p xs) ≡ false
any_filtered p q [] h = refl
any_filtered p q (x ∷ xs) h = kept_none (p x) (q x) false false x (filter p xs) q refl (head_at (q x) (list_any q xs) h) (any_filtered p q xs (none_at false (q x) (list_any q xs) h))

distinct_at : (keep : Bool) (p : Guarded → Bool) (x : Guarded) (xs : List Guarded) → list_any (λ (g : Guarded). guarded_same g x) xs ≡ false → AreDistinct xs → AreDistinct (cond keep (x ∷ xs) xs)
distinct_at true p x xs none rest = (none, rest)
distinct_at false p x xs none rest = rest

filtered_distinct : (p : Guarded → Bool) (xs : List Guarded) → AreDistinct xs → AreDistinct (filter p xs)
filtered_distinct p [] h = tt
filtered_distinct p (x ∷ xs) h = distinct_at (p x) p x (filter p xs) (any_filtered p (λ (g : Guarded). guarded_same g x) xs h.0) (filtered_distinct p xs h.1)

gone_at : (b : Bool) (q : Guarded → Bool) (x : Guarded) (rest : List Guarded) → q x ≡ b → list_any q rest ≡ false → list_any q (cond (not b) (x ∷ rest) rest) ≡ false
gone_at true q x rest is h = h
gone_at false q x rest is h = rw (is, h)

gone : (q : Guarded → Bool) (xs : List Guarded) → list_any q (filter (λ (x : Guarded). not (q x)) xs) ≡ false
gone q [] = refl
gone q (x ∷ xs) = gone_at (q x) q x (filter (λ (y : Guarded). not (q y)) xs) refl (gone q xs)

pub once_distinct : (gs : List Guarded) → AreDistinct (each_once gs)
once_distinct [] = tt
once_distinct (first ∷ gs) = (gone (λ (g : Guarded). guarded_same g first) (each_once gs), filtered_distinct (λ (g : Guarded). not (guarded_same g first)) (each_once gs) (once_distinct gs))

later_any : (b c : Bool) → c ≡ true → (b || c) ≡ true
later_any true c h = refl
later_any false c h = h

found_any : (q : Guarded → Bool) (gs : List Guarded) (i : ℕ) (g : Guarded) → slice_get gs i ≡ Some g → q g ≡ true → list_any q gs ≡ true
found_any q [] i g h is = absurd (cc)
found_any q (x ∷ gs) zero g h is = let e : x ≡ g = cc in rw (e, is) refl
found_any q (x ∷ gs) (suc i) g h is = later_any (q x) (list_any q gs) (found_any q gs i g h is)

false_where : (b : Bool) → (b ≡ true → ⊥) → b ≡ false
false_where true h = absurd (h refl)
false_where false h = refl

both_ways : (b c : Bool) → b ≡ true → c ≡ false → b ≡ c → ⊥
both_ways b c h k e = cc

own_at : (b : Bool) (n i : ℕ) → b ≡ false → n ≡ i → cond (not b) (1 + n) 0 ≡ suc i
own_at b n i h e = rw h (omega (arith, e))

-- a key is found at its place
pub own_place : (gs : List Guarded) (i : ℕ) (g : Guarded) → AreDistinct gs → slice_get gs i ≡ Some g → place_in gs g.key ≡ i
own_place [] i g d h = absurd (cc)
own_place (x ∷ gs) zero g d h =
    let e : x ≡ g = cc in
    let same : key_same g.key x.key ≡ true = ap (λ (y : Guarded). key_same g.key y.key) e ∙ (key_decides g.key g.key).1 refl in
    rw same refl
own_place (x ∷ gs) (suc i) g d h =
    own_at (key_same g.key x.key) (place_in gs g.key) i
    (false_where (key_same g.key x.key) (λ same. both_ways _ _ (found_any (λ (y : Guarded). guarded_same y x) gs i g h same) d.0 refl))
    (own_place gs i g d.1 h)

at_place : (b : Bool) (key : Key) (x : Guarded) (gs : List Guarded) (i n : ℕ) (g : Guarded) → key_same key x.key ≡ b → cond (not b) (1 + n) 0 ≡ i → slice_get (x ∷ gs) i ≡ Some g
    → ((j : ℕ) → n ≡ j → slice_get gs j ≡ Some g → key_same key g.key ≡ true) → key_same key g.key ≡ true
at_place true key x gs zero n g is e h k = let same : x ≡ g = cc in ap (λ (y : Guarded). key_same key y.key) (sym same) ∙ is
at_place true key x gs (suc i) n g is e h k = absurd (omega (arith, e))
at_place false key x gs zero n g is e h k = absurd (omega (arith, e))
at_place false key x gs (suc i) n g is e h k = k i (omega (arith, e)) h

-- at the place of a key is that key
pub place_has : (gs : List Guarded) (key : Key) (i : ℕ) (g : Guarded) → place_in gs key ≡ i → slice_get gs i ≡ Some g → key_same key g.key ≡ true
place_has [] key i g e h = absurd (cc)
place_has (x ∷ gs) key i g e h = at_place (key_same key x.key) key x gs i (place_in gs key) g refl e h (λ j e' h'. place_has gs key j g e' h')

-- ---- what is new after some

only : (y : Guarded) (i : ℕ) (g : Guarded) → slice_get (y ∷ []) i ≡ Some g → g ≡ y
only y zero g h = cc
only y (suc i) g h = absurd (cc)

new_at : (b : Bool) (gs : List Guarded) (y : Guarded) → (more : List Guarded) × (cond b gs (gs ++ y ∷ []) ≡ gs ++ more) × ((i : ℕ) (g : Guarded) → slice_get more i ≡ Some g → g ≡ y)
new_at true gs y = ([], sym (append-nil gs), λ i g h. absurd (cc))
new_at false gs y = (y ∷ [], refl, only y)

split_get : (P : Type 0) (xs ys : List Guarded) (i : ℕ) (g : Guarded) → slice_get (xs ++ ys) i ≡ Some g → ((j : ℕ) → slice_get xs j ≡ Some g → P) → ((j : ℕ) → slice_get ys j ≡ Some g → P) → P
split_get P [] ys i g h first second = second i h
split_get P (x ∷ xs) ys zero g h first second = first zero h
split_get P (x ∷ xs) ys (suc i) g h first second = split_get P xs ys i g h (λ j k. first (suc j) k) second

-- after some of these come more, each of which has a key of others
pub record IsExtended (old all others : List Guarded) : Type 0 where
  pub more : List Guarded
  pub grown : all ≡ old ++ more
  pub among : (i : ℕ) (g : Guarded) → slice_get more i ≡ Some g → list_any (guarded_same g) others ≡ true

same_any : (g y : Guarded) (ys : List Guarded) → g ≡ y → list_any (guarded_same g) (y ∷ ys) ≡ true
same_any g y ys e = let same : guarded_same g y ≡ true = ap (λ (x : Guarded). guarded_same g x) (sym e) ∙ (key_decides g.key g.key).1 refl in rw same refl

pub once_extends : (xs ys : List Guarded) → IsExtended (each_once xs) (each_once (xs ++ ys)) ys
once_extends xs [] = record { more = []; grown = ap each_once (append-nil xs) ∙ sym (append-nil (each_once xs)); among = λ i g h. absurd (cc) }
once_extends xs (y ∷ ys) =
    let first = new_at (list_any (guarded_same y) (each_once xs)) (each_once xs) y in
    let rest : IsExtended (each_once (xs ++ y ∷ [])) (each_once ((xs ++ y ∷ []) ++ ys)) ys = once_extends (xs ++ y ∷ []) ys in
    record {
      more = first.0 ++ rest.more;
      grown = ap each_once (sym (append_assoc xs (y ∷ []) ys)) ∙ rest.grown ∙ ap (λ (gs : List Guarded). gs ++ rest.more) (once-push xs y ∙ first.1) ∙ append_assoc (each_once xs) first.0 rest.more;
      among = λ i g h. split_get (list_any (guarded_same g) (y ∷ ys) ≡ true) first.0 rest.more i g h
          (λ j k. same_any g y ys (first.2 j g k))
          (λ j k. later_any (guarded_same g y) (list_any (guarded_same g) ys) (rest.among j g k));
    }

-- one of the first of these, or one after them
pub first_get : (old more : List Guarded) (i : ℕ) → i < length old → slice_get (old ++ more) i ≡ slice_get old i
first_get [] more i h = absurd (omega arith)
first_get (x ∷ old) more zero h = refl
first_get (x ∷ old) more (suc i) h = first_get old more i (omega arith)

pub behind_get : (old more : List Guarded) (i : ℕ) (g : Guarded) → length old ≤ i → slice_get (old ++ more) i ≡ Some g → (j : ℕ) × (slice_get more j ≡ Some g)
behind_get [] more i g h is = (i, is)
behind_get (x ∷ old) more zero g h is = absurd (omega arith)
behind_get (x ∷ old) more (suc i) g h is = behind_get old more i g (omega arith) is
