-- The generations that are set aside under a picture, by its version. This project's own.
use Rattle.std.specs.Prelude.{◌≡◌, ℕ, Bool, true, false, nat_eq, List, Option, None, Some}
use Rattle.std.specs.Map.{lookup}
use Rattle.std.specs.Ordering.{nat_cmp}
use Rattle.std.specs.BTreeSet.{BTreeSet, contains}

-- versions, each with the generations under it
abbrev pub AsideKept : Type 0
AsideKept = List (ℕ × BTreeSet ℕ)

-- it is one of these
abbrev pub is_in : Option (BTreeSet ℕ) → ℕ → Bool
is_in None number = false
is_in (Some numbers) number = contains nat_cmp numbers number

-- the generation is set aside under the version
abbrev pub is_under : AsideKept → ℕ → ℕ → Bool
is_under kept version number = is_in (lookup (nat_eq version) kept) number

-- some generation is among these
abbrev pub HasSome : BTreeSet ℕ → Type 0
HasSome numbers = (number : ℕ) × (contains nat_cmp numbers number ≡ true)

-- no version is there with no generation under it
abbrev pub HasNoEmpty : AsideKept → Type 0
HasNoEmpty kept = (version : ℕ) (numbers : BTreeSet ℕ) → lookup (nat_eq version) kept ≡ Some numbers → HasSome numbers

-- the second test is true wherever the first is
abbrev pub HoldsMore : {A : Type 0} → (A → Bool) → (A → Bool) → Type 0
HoldsMore {A} before after = (x : A) → before x ≡ true → after x ≡ true

-- what is set aside under a version stays so
abbrev pub KeepsAside : AsideKept → AsideKept → Type 0
KeepsAside before after = (version : ℕ) → HoldsMore (is_under before version) (is_under after version)
