-- Elements that have a number and a name each, and the tables by which they are found.
use Rattle.std.specs.Prelude.{ℕ, ◌==◌, ◌≡◌, ◌||◌, Bool, true, not, ⊤, List, [], ◌∷◌, filter, find, Option, Some, None}
use Rattle.std.specs.List.{AllByRecursion}
use Rattle.std.specs.Str.{bytes_eq}
use Rattle.ev_model.specs.Sorted.{put_by}
use Rattle.ev_model.specs.Versions.{is_before}

-- the first element of this name
abbrev pub named : {X : Type 0} → (X → List ℕ) → List X → List ℕ → Option X
named name xs n = find (λ x. bytes_eq (name x) n) xs

-- the first element of this number
abbrev pub numbered : {X : Type 0} → (X → ℕ) → List X → ℕ → Option X
numbered number xs n = find (λ x. number x == n) xs

-- the elements without that of this number
abbrev pub without_number : {X : Type 0} → (X → ℕ) → ℕ → List X → List X
without_number number n xs = filter (λ x. not (number x == n)) xs

-- the elements without that of this name
abbrev pub without_name : {X : Type 0} → (X → List ℕ) → List ℕ → List X → List X
without_name name n xs = filter (λ x. not (bytes_eq (name x) n)) xs

-- the elements with this one in the order of names
abbrev pub put_before : {X : Type 0} → (X → List ℕ) → X → List X → List X
put_before name x xs = put_by (λ one other. is_before (name one) (name other)) x xs

-- the elements with this one in the order of names, in place of those of its number or its name
abbrev pub put_in : {X : Type 0} → (X → ℕ) → (X → List ℕ) → X → List X → List X
put_in number name x xs =
    put_by (λ one other. is_before (name one) (name other)) x
    (filter (λ other. not ((number other == number x) || bytes_eq (name other) (name x))) xs)

-- the elements with this one, if there is one, in place of that of its name
abbrev pub put_named : {X : Type 0} → (X → List ℕ) → Option X → List X → List X
put_named name None xs = xs
put_named name (Some x) xs = put_before name x (without_name name (name x) xs)

-- what a table has under these names, in the order of names
abbrev pub listing : {X : Type 0} → (X → List ℕ) → (List ℕ → Option X) → List (List ℕ) → List X
listing name table [] = []
listing name table (n ∷ ns) = put_named name (table n) (listing name table ns)

-- the test is true of each element and each one after it
abbrev pub IsPairwise : {X : Type 0} → (X → X → Bool) → List X → Type 0
IsPairwise test [] = ⊤
IsPairwise test (x ∷ xs) = AllByRecursion (λ other. test x other ≡ true) xs × IsPairwise test xs

-- each name comes before the names after it, and no number occurs twice
pub record IsInOrder {X : Type 0} (number : X → ℕ) (name : X → List ℕ) (xs : List X) : Type 0 where
  pub names : IsPairwise (λ one other. is_before (name one) (name other)) xs
  pub numbers : IsPairwise (λ one other. not (number one == number other)) xs

-- the elements are in order, and the tables by name and by number find what a search of them finds
pub record AreFound {X : Type 0} (number : X → ℕ) (name : X → List ℕ) (xs : List X) (by_name : List ℕ → Option X) (by_number : ℕ → Option X) : Type 0 where
  pub order : IsInOrder number name xs
  pub at_name : (n : List ℕ) → by_name n ≡ named name xs n
  pub at_number : (n : ℕ) → by_number n ≡ numbered number xs n
