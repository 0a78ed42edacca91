-- The table of keys, and what it shows.
use Rattle.std.proofs.Common.{◌≡◌, ℕ, ◌+◌, ◌<◌, Bool, true, false, not, cond, ◌||◌, List, [], ◌∷◌, length, Option, Some, None, IfSome, is_some, refl, sym, ap, ◌∙◌, subst}
use Rattle.std.specs.Prelude.{IfNone}
use Rattle.std.specs.List.{list_any, position_or_len}
use Rattle.std.specs.Map.{lookup, keys_of}
use Rattle.std.proofs.lemmas.List.{length-map}
use Rattle.ev_trees.specs.declared.kept_tree.KeptTree.{KeptTree}
use Rattle.ev_trees.specs.Kept.{kept_shown}
use Rattle.ev_expand.specs.declared.keys.Key.{Key}
use Rattle.ev_expand.specs.Guarding.{Guarded}
use Rattle.ev_expand.specs.Numbers.{seen_in}

pub seen_place : (test : Key → Bool) (es : List (Key × KeptTree)) → position_or_len (λ (g : Guarded). test g.key) (seen_in es) ≡ position_or_len test (keys_of es)
seen_place test [] = refl
seen_place test (e ∷ es) = ap (λ (n : ℕ). cond (not (test e.0)) (1 + n) 0) (seen_place test es)

any_at : (b c : Bool) (v : KeptTree) (o : Option KeptTree) → c ≡ is_some o → (b || c) ≡ is_some (cond b (Some v) o)
any_at true c v o h = refl
any_at false c v o h = h

pub seen_any : (test : Key → Bool) (es : List (Key × KeptTree)) → list_any (λ (g : Guarded). test g.key) (seen_in es) ≡ is_some (lookup test es)
seen_any test [] = refl
seen_any test (e ∷ es) = any_at (test e.0) _ e.1 (lookup test es) (seen_any test es)

pub length-seen : (es : List (Key × KeptTree)) → length (seen_in es) ≡ length es
length-seen es = length-map es (λ (e : Key × KeptTree). record { key = e.0; own = kept_shown e.1 })

some_of : (p n : ℕ) (b : Bool) → Some p ≡ cond b (Some n) None → p ≡ n
some_of p n true h = cc
some_of p n false h = absurd (cc)

pub found_place : (o : Option ℕ) (n m : ℕ) (b : Bool) → o ≡ cond b (Some n) None → m ≡ n → IfSome o (λ (p : ℕ). p ≡ m)
found_place None n m b h same = tt
found_place (Some p) n m b h same = some_of p n b h ∙ sym same

pub found_within : (o : Option ℕ) (n m : ℕ) → IfSome o (λ (p : ℕ). p < n) → m ≡ n → IfSome o (λ (p : ℕ). p < m)
found_within o n m h same = subst (λ (k : ℕ). IfSome o (λ (p : ℕ). p < k)) (sym same) h

pub found_none : (o : Option ℕ) (any : Bool) → any ≡ is_some o → IfNone o (any ≡ false)
found_none None any h = h
found_none (Some p) any h = tt

pub found_some : (o : Option ℕ) (any : Bool) → any ≡ is_some o → IfSome o (λ (p : ℕ). any ≡ true)
found_some None any h = tt
found_some (Some p) any h = h

pub none_is : (o : Option KeptTree) → is_some o ≡ false → o ≡ None
none_is None h = refl
none_is (Some v) h = absurd (cc)
