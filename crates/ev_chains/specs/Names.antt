-- The server names that a connection's name is looked for under.
use Rattle.std.specs.Prelude.{ℕ, ◌==◌, List, [], ◌∷◌, ◌++◌, drop, map, if◌then◌else◌, Option, Some, None}

-- for each dot of a text, from the left, a star and the text from the dot on
abbrev pub wild_from : List ℕ → List (List ℕ)
wild_from [] = []
wild_from (byte ∷ bytes) = if byte == 46 then (42 ∷ byte ∷ bytes) ∷ wild_from bytes else wild_from bytes

-- the forms `*.x` of a name that ends with `.x` and is longer, from the longest
abbrev pub wild_names : List ℕ → List (List ℕ)
wild_names name = wild_from (drop 1 name)

-- the name itself, then its forms from the longest, then no name, as a chain has that takes any
abbrev pub asked_names : List ℕ → List (Option (List ℕ))
asked_names name = Some name ∷ map Some (wild_names name) ++ None ∷ []
