-- The script that a text says, and the lines of the text that a command makes.
use Rattle.std.specs.Prelude.{◌≡◌, ℕ, ◌+◌, List, [], ◌∷◌, ◌++◌, map, flat_map, true, false, Some, option_to_list, ⊤}
use Rattle.serde_json.specs.Data.{Data}
use Rattle.ev_types.specs.Scripts.{ScriptParts}
use Rattle.ev_types.specs.declared.events.Line.{Line}
use Rattle.ev_types.specs.declared.events.Profile.{Profile}
use Rattle.ev_script.specs.declared.forms.Settings.{Settings}
use Rattle.ev_script.specs.declared.trees.ScriptTrees.{ScriptTrees}
use Rattle.ev_script.specs.Content.{is_above}
use Rattle.ev_script.specs.Faults.{Input, worker_of}
use Rattle.ev_script.specs.Lines.{line_of}
use Rattle.ev_script.specs.Members.{tree_told}
use Rattle.ev_script.specs.ReadScript.{script_made}
use Rattle.ev_expand.specs.Fronts.{fronts}
use Rattle.ev_expand.specs.Expanding.{Rules, gives}

-- the trees of the lines after the header
abbrev pub lines_in : ScriptTrees → List Data
lines_in trees = map tree_told trees.lines.items

-- the lines that trees are in a profile, from this place on
abbrev pub lines_said : Profile → ℕ → List Data → List Line
lines_said profile at [] = []
lines_said profile at (tree ∷ trees) = option_to_list (line_of profile at tree) ++ lines_said profile (at + 1) trees

-- the tree is, at this place, a line of a script with these settings
pub record HasLine (settings : Settings) (at : ℕ) (tree : Data) : Type 0 where
  pub line : Line
  pub is : line_of settings.profile at tree ≡ Some line
  pub below : is_above settings.workers (worker_of line.actor) ≡ false

-- from this place on, one after another
abbrev pub AllAt : (ℕ → Data → Type 0) → ℕ → List Data → Type 0
AllAt P at [] = ⊤
AllAt P at (tree ∷ trees) = P at tree × AllAt P (at + 1) trees

-- a text as a whole input
abbrev pub input_of_text : List ℕ → Input
input_of_text text = record { bytes = text; ended = true; audit = false }

-- the lines of the text that a command makes of these lines, in order
abbrev pub given_lines : Rules → List Data → List Data
given_lines rules lines = flat_map (gives rules) (fronts lines)

-- the script that the text is
abbrev pub expanded_script : Rules → ScriptTrees → ScriptParts
expanded_script rules trees = script_made trees.header (lines_said trees.header.profile 2 (given_lines rules (lines_in trees)))
