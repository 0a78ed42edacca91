-- Members as texts, for what is written piece by piece.
use Rattle.std.specs.Prelude.{ℕ, List, [], ◌∷◌, ◌++◌, Option, None, Some}
use Rattle.json.specs.Print.{quoted}
use Rattle.serde_json.specs.Data.{Data}
use Rattle.serde_json.specs.Written.{compact_text}

-- a member with the comma behind it, where there is a value for it
abbrev pub given_text : {A : Type 0} → List ℕ → (A → Data) → Option A → List ℕ
given_text key tree None = []
given_text key tree (Some value) = quoted key ++ 58 ∷ (compact_text (tree value) ++ 44 ∷ [])
