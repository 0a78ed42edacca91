-- How the text grows by a line, and what else is known after it.
use Rattle.std.specs.Prelude.{◌≡◌, ℕ, Bool, true, false, List, [], ◌∷◌, ◌++◌, map, Result, Ok, IfOk, OnOk, Vec}
use Rattle.std.specs.declared.alloc.AllocError.{AllocError}
use Rattle.std.specs.declared.alloc.Global.{Global}
use Rattle.serde_json.specs.Data.{Data}
use Rattle.ev_tree.specs.Floats.{whole}
use Rattle.ev_trees.specs.Trees.{AreWithinLimits}
use Rattle.ev_expand.specs.declared.following.Due.{Due}
use Rattle.ev_expand.specs.declared.numbers.Numbers.{Numbers}
use Rattle.ev_expand.specs.declared.text_so_far.TextSoFar.{TextSoFar}
use Rattle.ev_expand.specs.Room.{IsTextSoFar}
use Rattle.ev_expand.specs.Fronts.{Front}
use Rattle.ev_expand.specs.Guarding.{Guard, Guarded, guarded_by}
use Rattle.ev_expand.specs.Following.{due_shown}
use Rattle.ev_expand.specs.Numbers.{AreNumbersOf}
use Rattle.ev_expand.specs.Expanding.{Rules, due_at, gives, given_by, place_of, written_by, ReadBack}

-- a line after these
abbrev pub front_of : List Data → Data → Front
front_of before line = record { before = before; line = line }

-- what an answer of a call means that puts these after a text, in order: all of them are there, or they had no room
pub record Pushes (old new : TextSoFar) (answer : Result Bool AllocError) (more : List Data) : Type 0 where
  pub pushed : (trees : List Data) → IsTextSoFar trees old → answer ≡ Ok true → IsTextSoFar (trees ++ map whole more) new
  pub full : (trees : List Data) → IsTextSoFar trees old → answer ≡ Ok false → ¬ (AreWithinLimits (trees ++ map whole more))
  pub read_back : answer ≡ Ok true → ReadBack more

-- the text and what is guarded are those of the header and these lines
pub record IsGrown (rules : Rules) (head : Data) (lines : List Data) (text : TextSoFar) (guarded : List Guarded) : Type 0 where
  pub written : IsTextSoFar (written_by rules head lines) text
  pub read_back : ReadBack (given_by rules head lines)
  pub kept : guarded ≡ guarded_by rules.guard lines

-- ---- from after some lines to after the next one, by how a value has to be after lines

-- the fact holds of the lines after which the value is as it is, and whose numbers these are
abbrev pub FromLines : {S : Type 0} → Guard → (S → List Data → Type 0) → S → Numbers → (List Data → Type 0) → Type 0
FromLines guard is_behind value numbers fact =
    (before : List Data) → is_behind value before → AreNumbersOf guard before numbers → fact before

-- the same, where these are the numbers after the next line
abbrev pub FromBehind : {S : Type 0} → Guard → (S → List Data → Type 0) → S → Numbers → Data
    → (List Data → Type 0) → Type 0
FromBehind guard is_behind value numbers line fact =
    (before : List Data) → is_behind value before → AreNumbersOf guard (before ++ line ∷ []) numbers → fact before

-- after some lines the text grows by what the next one gives, where that is line `at`
abbrev pub GrowsBy : {S : Type 0} → Rules → (S → List Data → Type 0) → S → Numbers → ℕ → Data
    → TextSoFar → TextSoFar → Result Bool AllocError → Type 0
GrowsBy rules is_behind value numbers at line old new answer = FromLines rules.guard is_behind value numbers
    (λ before. at ≡ place_of (front_of before line) → Pushes old new answer (gives rules (front_of before line)))

-- from after some lines the value comes after the next one
abbrev pub StepsBehind : {S : Type 0} → Rules → (S → List Data → Type 0) → S → S → Numbers → Data
    → Result Bool AllocError → Type 0
StepsBehind rules is_behind old new numbers line answer = FromLines rules.guard is_behind old numbers
    (λ before. OnOk answer (is_behind new (before ++ line ∷ [])))

-- the same, by the numbers after the next line
abbrev pub TakesLine : {S : Type 0} → Rules → (S → List Data → Type 0) → S → S → Numbers → Data
    → Result (Vec Due Global) AllocError → Type 0
TakesLine rules is_behind old new numbers line answer = FromBehind rules.guard is_behind old numbers line
    (λ before. OnOk answer (is_behind new (before ++ line ∷ [])))

-- what is due at the next line is reported, by the numbers after that line
abbrev pub TellsDue : {S : Type 0} → Rules → (S → List Data → Type 0) → S → Numbers → Data
    → Result (Vec Due Global) AllocError → Type 0
TellsDue rules is_behind old numbers line answer = FromBehind rules.guard is_behind old numbers line
    (λ before. IfOk answer (λ due. map due_shown due.items ≡ due_at rules (front_of before line)))
