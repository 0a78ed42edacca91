-- A map that takes over another's entries one after the other: what it has of those so far.
use Rattle.std.proofs.Common.{◌≡◌, ◌∙◌, Bool, true, false, cond, List, [], ◌∷◌, ◌++◌, Option, Some, None, refl, sym, ap, true≢false}
use Rattle.std.specs.Cmp.{IsEquivalence}
use Rattle.std.specs.List.{AllByRecursion, IsDistinct}
use Rattle.std.specs.Map.{lookup, keys_of}
use Rattle.std.proofs.lemmas.Map.Keys.{IsDistinct-head, IsDistinct-tail}
use Rattle.ev_layers.specs.Layers.{over_base}

pub push_front : {A : Type 0} (xs : List A) (x : A) (ys : List A) → (xs ++ x ∷ []) ++ ys ≡ xs ++ x ∷ ys
push_front [] x ys = refl
push_front (y ∷ xs) x ys = ap (λ zs. y ∷ zs) (push_front xs x ys)

later : {K V : Type 0} (P : K → Type 0) (es : List (K × V)) (k : K) (v : V) (rest : List (K × V)) → AllByRecursion P (keys_of (es ++ (k, v) ∷ rest)) → P k
later P [] k v rest all = all.0
later P (e ∷ es) k v rest all = later P es k v rest all.1

module _ {K V : Type 0} (eq : K → K → Bool) (laws : IsEquivalence eq) where
  pub lookup_more : (es : List (K × V)) (k : K) (v : V) (rest : List (K × V)) → IsDistinct eq (keys_of (es ++ (k, v) ∷ rest)) → (q : K)
      → lookup (eq q) (es ++ (k, v) ∷ []) ≡ cond (eq k q) (Some v) (lookup (eq q) es)
  lookup_more [] k v rest apart q = λ i. cond (laws.symm q k i) (Some v) None
  lookup_more (e ∷ es) k v rest apart q =
      by (eq q e.0) (eq k q) refl refl (later (λ y. eq e.0 y ≡ false) es k v rest (IsDistinct-head eq e.0 (keys_of (es ++ (k, v) ∷ rest)) apart))
      (lookup_more es k v rest (IsDistinct-tail eq e.0 (keys_of (es ++ (k, v) ∷ rest)) apart) q)
    where
      by : (a b : Bool) → eq q e.0 ≡ a → eq k q ≡ b → eq e.0 k ≡ false → lookup (eq q) (es ++ (k, v) ∷ []) ≡ cond (eq k q) (Some v) (lookup (eq q) es)
          → cond a (Some e.1) (lookup (eq q) (es ++ (k, v) ∷ [])) ≡ cond b (Some v) (cond a (Some e.1) (lookup (eq q) es))
      by true true f g far more = absurd (true≢false (sym (laws.symm e.0 k ∙ laws.congr k q e.0 g ∙ f) ∙ far))
      by true false f g far more = refl
      by false b f g far more = more ∙ (λ i. cond (g i) (Some v) (lookup (eq q) es))

module _ {K V : Type 0} (eq : K → K → Bool) (laws : IsEquivalence eq) where
  pub over_more : (es : List (K × Option V)) (k : K) (v : Option V) (rest : List (K × Option V)) (below : Option V) → IsDistinct eq (keys_of (es ++ (k, v) ∷ rest)) → (q : K)
      → over_base (lookup (eq q) (es ++ (k, v) ∷ [])) below ≡ cond (eq k q) v (over_base (lookup (eq q) es) below)
  over_more es k v rest below apart q = ap (λ o. over_base o below) (lookup_more eq laws es k v rest apart q) ∙ by (eq k q)
    where
      by : (b : Bool) → over_base (cond b (Some v) (lookup (eq q) es)) below ≡ cond b v (over_base (lookup (eq q) es) below)
      by true = refl
      by false = refl
