-- Whether a worker has a connection.
use Rattle.std.proofs.Common.{◌≡◌, ℕ, Bool, true, false, ◌||◌, ◌==◌, cond, List, [], ◌∷◌, filter, Option, None, Some, refl, sym, ap, ◌∙◌}
use Rattle.std.specs.List.{list_any}
use Rattle.std.specs.Option.{is_some}
use Rattle.std.specs.Map.Iter.{TakesFirst}
use Rattle.ev_model.specs.World.{OpenMember}
use Rattle.ev_ledger.specs.Members.{is_of_worker, member_before, HasOpened}
use Rattle.ev_ledger.specs.declared.open_on.On.{On}
use Rattle.ev_ledger.specs.Entries.{is_at_worker, members_of}
use Rattle.ev_ledger.proofs.OrderLemmas.{any_sorted}

-- some pass exactly where a filter leaves some
pub none_pass : {X : Type 0} (p : X → Bool) (xs : List X) → filter p xs ≡ [] → list_any p xs ≡ false
none_pass p [] is = refl
none_pass p (x ∷ xs) is = by (p x) is (none_pass p xs)
  where
    by : (t : Bool) → cond t (x ∷ filter p xs) (filter p xs) ≡ [] → (filter p xs ≡ [] → list_any p xs ≡ false) → (t || list_any p xs) ≡ false
    by true is rest = absurd (cc is)
    by false is rest = rest is

pub one_passes : {X : Type 0} (p : X → Bool) (xs : List X) (y : X) (ys : List X) → filter p xs ≡ y ∷ ys → list_any p xs ≡ true
one_passes p [] y ys is = absurd (cc is)
one_passes p (x ∷ xs) y ys is = by (p x) is (one_passes p xs y ys)
  where
    by : (t : Bool) → cond t (x ∷ filter p xs) (filter p xs) ≡ y ∷ ys → (filter p xs ≡ y ∷ ys → list_any p xs ≡ true) → (t || list_any p xs) ≡ true
    by true is rest = refl
    by false is rest = rest is

-- so does what an iterator gives first of those
pub first_there : {A X : Type 0} (shows : A → X) (p : X → Bool) (all s t : List X) (first : Option A) → s ≡ filter p all → TakesFirst shows s first t
    → is_some first ≡ list_any p all
first_there shows p all s t None is takes = sym (none_pass p all (sym is ∙ takes.0))
first_there shows p all s t (Some x) is takes = sym (one_passes p all (shows x) t (sym is ∙ takes))

-- an entry of a worker is a connection of it
pub any_members : (worker : ℕ) (es : List ((ℕ × ℕ) × On)) → list_any (is_at_worker worker) es ≡ list_any (is_of_worker worker) (members_of es)
any_members worker [] = refl
any_members worker (e ∷ es) = ap (λ b. (e.0.0 == worker) || b) (any_members worker es)

pub any_stands : (worker : ℕ) (ledger opened : List OpenMember) → HasOpened ledger opened → list_any (is_of_worker worker) ledger ≡ list_any (is_of_worker worker) opened
any_stands worker ledger opened stands = ap (list_any (is_of_worker worker)) stands ∙ any_sorted member_before (is_of_worker worker) opened
