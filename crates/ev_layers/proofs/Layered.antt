-- What layers have, one after the other.
use Rattle.std.proofs.Common.{◌≡◌, ◌∙◌, ℕ, ◌+◌, ◌<◌, Bool, true, false, cond, List, [], ◌∷◌, ◌++◌, drop, get_or, length, Option, Some, None, refl, sym, ap}
use Rattle.std.proofs.Math.Numerals.{add-one}
use Rattle.std.proofs.Math.Seq.{drop-cons}
use Rattle.std.specs.Cmp.{IsEquivalence}
use Rattle.std.specs.Map.{lookup}
use Rattle.std.specs.Option.{option_or}
use Rattle.indexmap.specs.IndexMap.{IndexMap, get_by}
use Rattle.ev_layers.specs.Layers.{entry_in}
use Rattle.ev_layers.proofs.Maps.{push_front}

or_or : {X : Type 0} (a b c : Option X) → option_or (option_or a b) c ≡ option_or a (option_or b c)
or_or None b c = refl
or_or (Some a) b c = refl

pub or_none : {X : Type 0} (a : Option X) → option_or a None ≡ a
or_none None = refl
or_none (Some a) = refl

-- layers after others have what these lack
pub entry_behind : {K V S : Type 0} (test : K → Bool) (layers others : List (IndexMap K V S))
    → entry_in test (layers ++ others) ≡ option_or (entry_in test layers) (entry_in test others)
entry_behind test [] others = refl
entry_behind test (layer ∷ layers) others =
    ap (option_or (get_by test layer)) (entry_behind test layers others) ∙ sym (or_or (get_by test layer) (entry_in test layers) (entry_in test others))

-- entries after others have what these lack
lookup_behind : {K V : Type 0} (test : K → Bool) (es others : List (K × V)) → lookup test (es ++ others) ≡ option_or (lookup test es) (lookup test others)
lookup_behind test [] others = refl
lookup_behind test (e ∷ es) others = by (test e.0) (lookup_behind test es others)
  where
    by : (b : Bool) → lookup test (es ++ others) ≡ option_or (lookup test es) (lookup test others)
        → cond b (Some e.1) (lookup test (es ++ others)) ≡ option_or (cond b (Some e.1) (lookup test es)) (lookup test others)
    by true rest = refl
    by false rest = rest

-- one more entry of an older map
pub below_more : {K V : Type 0} (eq : K → K → Bool) (laws : IsEquivalence eq) (newer : Option V) (es : List (K × V)) (k : K) (v : V) (q : K)
    → option_or (option_or newer (lookup (eq q) es)) (cond (eq k q) (Some v) None) ≡ option_or newer (lookup (eq q) (es ++ (k, v) ∷ []))
below_more eq laws newer es k v q =
    or_or newer (lookup (eq q) es) (cond (eq k q) (Some v) None)
    ∙ ap (option_or newer) (ap (option_or (lookup (eq q) es)) (λ i. cond (laws.symm k q i) (Some v) None) ∙ sym (lookup_behind (eq q) es ((k, v) ∷ [])))

-- one more layer taken from those that are left
pub layers_more : {K V S : Type 0} (test : K → Bool) (top new_top layer : IndexMap K V S) (left new_left rest : List (IndexMap K V S))
    → entry_in test (new_top ∷ new_left) ≡ entry_in test (top ∷ left ++ layer ∷ [])
    → entry_in test (new_top ∷ new_left ++ rest) ≡ entry_in test (top ∷ left ++ layer ∷ rest)
layers_more test top new_top layer left new_left rest same =
    entry_behind test (new_top ∷ new_left) rest
    ∙ ap (λ o. option_or o (entry_in test rest)) same
    ∙ sym (entry_behind test (top ∷ left ++ layer ∷ []) rest)
    ∙ ap (λ ls. entry_in test (top ∷ ls)) (push_front left layer rest)

-- the element at a place, before those after it
pub next_at : {X : Type 0} (xs : List X) (i : ℕ) (x : X) → i < length xs → x ≡ get_or xs i x → x ∷ drop (i + 1) xs ≡ drop i xs
next_at xs i x within is = (λ j. is j ∷ drop (add-one i j) xs) ∙ sym (drop-cons xs i x within)
