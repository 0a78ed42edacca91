-- Searches of what came so far.
use Rattle.std.specs.Prelude.{List, [], ◌∷◌, ◌++◌}

-- each element with those before it, where these come before the first
abbrev pub with_before : {A : Type 0} → List A → List A → List (List A × A)
with_before before [] = []
with_before before (element ∷ elements) = (before, element) ∷ with_before (before ++ element ∷ []) elements
