-- How a change of a map's look-ups sets the value of a name.
use Rattle.std.proofs.Common.{◌≡◌, ◌∙◌, Bool, true, false, cond, List, Option, None, Some, IsSome, unwrap_or, refl, sym, subst}
use Rattle.std.specs.Cmp.{decided}
use Rattle.std.specs.Map.{lookup, set_value}
use Rattle.std.proofs.lemmas.Map.{lookup-set_value}
use Rattle.std.proofs.lemmas.Option.{none-some}
use Rattle.ev_lookups.specs.Keys.{key_same, key_decides}
use Rattle.ev_lookups.specs.declared.kind_keys.Key.{Key}
use Rattle.ev_indexes.specs.Kept.{kept_at, Sets, HasNoDefault}

-- what is kept at a name that is found
pub kept_at-found : {V : Type 0} (default : V) (kept : List (Key × V)) (key : Key) (o : Option V) → lookup (key_same key) kept ≡ o → kept_at default kept key ≡ unwrap_or o default
kept_at-found default kept key o e = λ i. unwrap_or (e i) default

-- a value is written where one was found, and what is kept at every other name stays
pub kept_at-written : {V : Type 0} (default : V) (kept : List (Key × V)) (key : Key) (old new : V) → lookup (key_same key) kept ≡ Some old → (q : Key)
    → kept_at default (set_value (key_same key) kept new) q ≡ cond (key_same key q) new (kept_at default kept q)
kept_at-written default kept key old new found q =
    (λ i. unwrap_or (lookup-set_value (decided key_same key_decides) (key_same key) (λ x y e. (decided key_same key_decides).congr key x y e) q new kept (subst IsSome (sym found) refl) i) default)
    ∙ by (key_same key q)
  where
    by : (b : Bool) → unwrap_or (cond b (Some new) (lookup (key_same q) kept)) default ≡ cond b new (kept_at default kept q)
    by true = refl
    by false = refl

-- an entry is taken out
module _ {V : Type 0} (default : V) (old new : List (Key × V)) (key : Key)
    (removes : (q : Key) → lookup (key_same q) new ≡ cond (key_same key q) None (lookup (key_same q) old)) where
  pub sets-removed : Sets default old new key default
  sets-removed q = (λ i. unwrap_or (removes q i) default) ∙ by (key_same key q)
    where
      by : (b : Bool) → unwrap_or (cond b None (lookup (key_same q) old)) default ≡ cond b default (kept_at default old q)
      by true = refl
      by false = refl

  pub no_default-removed : HasNoDefault default old → HasNoDefault default new
  no_default-removed kept q is = by (key_same key q) (sym (removes q) ∙ is)
    where
      by : (b : Bool) → cond b None (lookup (key_same q) old) ≡ Some default → ⊥
      by true h = none-some default h
      by false h = kept q h
