-- The text that a command makes of the lines of a script: each line, guarded resources in it as they wait, and after
-- it the line that follows it, where some number is due.
use Rattle.std.specs.Prelude.{◌≡◌, ℕ, ◌+◌, ◌-◌, ◌<◌, ◌≤◌, Bool, List, [], ◌∷◌, ◌++◌, map, filter, flat_map, length, take, Option, Some, None, Result, Ok, Err, if◌then◌else◌, decimal, All, Vec, ⊤}
use Rattle.std.specs.List.{enumerate_from}
use Rattle.std.specs.declared.alloc.Global.{Global}
use Rattle.serde_json.specs.Data.{Data}
use Rattle.ev_tree.specs.Floats.{whole}
use Rattle.ev_trees.specs.Trees.{text_of_trees, AreWithinLimits, IsReadable, ReadsBack}
use Rattle.ev_expand.specs.declared.outcome.ExpandError.{ExpandError}
use Rattle.ev_expand.specs.declared.outcome.ExpandError.TheVariants.{Private, Large, OutOfMemory}
use Rattle.ev_expand.specs.Fronts.{Front, up_to, fronts}
use Rattle.ev_expand.specs.Guarding.{Guard, Guarded, guarded_by, waiting_line}
use Rattle.ev_expand.specs.Following.{DueParts, following_line}
use Rattle.ev_expand.specs.Private.{first_use}

-- What a command does. `prefix` begins its private names, and `nonce` the nonces of the lines that it adds. `guard`:
-- which resources wait. `is_written`: whether a line itself is written. `is_due`: whether something guarded is due at
-- a line. `endpoints_of`: its endpoints after these lines, where there are some.
pub record Rules : Type 0 where
  pub prefix : List ℕ
  pub nonce : List ℕ
  pub guard : Guard
  pub is_written : Data → Bool
  pub is_due : Front → Guarded → Bool
  pub endpoints_of : List Data → Guarded → Option Data

-- what is guarded after the line
abbrev pub guarded_at : Rules → Front → List Guarded
guarded_at rules front = guarded_by rules.guard (up_to front)

-- the places that are due at a line, with their endpoints
abbrev pub due_at : Rules → Front → List DueParts
due_at rules front = map
    (λ (p : ℕ × Guarded). record { place = p.0; endpoints = rules.endpoints_of (up_to front) p.1 })
    (filter (λ (p : ℕ × Guarded). rules.is_due front p.1) (enumerate_from 0 (guarded_at rules front)))

-- the line itself, where it is written, by what is guarded
abbrev pub written_line : Rules → List Guarded → Data → List Data
written_line rules guarded line = if rules.is_written line then waiting_line rules.prefix rules.guard guarded line ∷ [] else []

-- the line that follows line `at` where some are due
abbrev pub lines_due : List ℕ → List ℕ → ℕ → List DueParts → List Data
lines_due prefix nonce at [] = []
lines_due prefix nonce at (first ∷ others) = following_line prefix nonce (decimal at) (first ∷ others) ∷ []

-- the number of the line, from 2 on for those after the header
abbrev pub place_of : Front → ℕ
place_of front = length front.before + 2

-- what a line gives
abbrev pub gives : Rules → Front → List Data
gives rules front =
    written_line rules (guarded_at rules front) front.line ++ lines_due rules.prefix rules.nonce (place_of front) (due_at rules front)

-- what the header and these lines give
abbrev pub given_by : Rules → Data → List Data → List Data
given_by rules head lines = head ∷ flat_map (gives rules) (fronts lines)

-- the same, as it is written: with -1 for each float
abbrev pub written_by : Rules → Data → List Data → List Data
written_by rules head lines = map whole (given_by rules head lines)

-- the text of the header and the lines
abbrev pub text_by : Rules → Data → List Data → List ℕ
text_by rules head lines = text_of_trees (written_by rules head lines)

-- the text goes above the limits of inputs with what this line gives, and not before
pub record GrowsTooLarge (rules : Rules) (head : Data) (lines : List Data) (line : ℕ) : Type 0 where
  pub first : 1 ≤ line
  pub last : line ≤ length lines + 1
  pub before : 1 < line → AreWithinLimits (written_by rules head (take (line - 2) lines))
  pub above : ¬ (AreWithinLimits (written_by rules head (take (line - 1) lines)))

-- what was written is read back, where it nests no deeper than a reader goes
abbrev pub ReadBack : List Data → Type 0
ReadBack trees = All (λ tree. IsReadable tree → ReadsBack (whole tree)) trees

-- what an answer means: the text, or the first line that uses a private name, or where there is none the line that
-- makes it too large
abbrev pub IsExpanded : Rules → Data → List Data → Result (Vec ℕ Global) ExpandError → Type 0
IsExpanded rules head lines (Ok text) =
    (first_use rules.guard.profile rules.prefix lines ≡ None) × AreWithinLimits (written_by rules head lines) × ReadBack (given_by rules head lines)
    × (text.items ≡ text_by rules head lines)
IsExpanded rules head lines (Err (Private line)) = first_use rules.guard.profile rules.prefix lines ≡ Some line
IsExpanded rules head lines (Err (Large line)) =
    (first_use rules.guard.profile rules.prefix lines ≡ None) × GrowsTooLarge rules head lines line
IsExpanded rules head lines (Err OutOfMemory) = ⊤
