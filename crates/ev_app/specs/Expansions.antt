-- The texts of the commands that make a script of a script, by their rules.
use Rattle.std.specs.Prelude.{◌≡◌, ℕ, ◌⊎◌, List, false, None, Some}
use Rattle.serde_json.specs.View.{view}
use Rattle.ev_io.specs.declared.faults.ScriptFault.{ScriptFault}
use Rattle.ev_io.specs.declared.faults.ScriptFault.TheVariants.{Bad, OutOfMemory as lacks_memory}
use Rattle.ev_types.specs.declared.events.Profile.{Profile}
use Rattle.ev_types.specs.Scripts.{IsScript}
use Rattle.ev_script.specs.declared.trees.ScriptTrees.{ScriptTrees}
use Rattle.ev_script.specs.Faults.{LineForms, HasNoFault, plain_lines}
use Rattle.ev_script.specs.Script.{script_of}
use Rattle.ev_trees.specs.Trees.{AreWithinLimits}
use Rattle.ev_expand.specs.Expanding.{Rules, GrowsTooLarge, text_by, written_by}
use Rattle.ev_expand.specs.Private.{first_use}
use Rattle.ev_expand.specs.declared.outcome.ExpandError.{ExpandError}
use Rattle.ev_expand.specs.declared.outcome.ExpandError.TheVariants.{Private, Large, OutOfMemory}
use Rattle.ev_expand.specs.Said.{lines_in, input_of_text, expanded_script}
use Rattle.ev_app.specs.Trees.{AreTreesOf}

-- the text is what the rules make of a script of these trees.
-- As an input of its own it has no fault, and is this script, which is within the bounds of scripts.
pub record IsTextBy (rules : Rules) (trees : ScriptTrees) (text : List ℕ) : Type 0 where
  pub is : text ≡ text_by rules (view trees.head) (lines_in trees)
  pub sound : HasNoFault plain_lines (input_of_text text)
  pub script : script_of false text ≡ Some (expanded_script rules trees)
  pub kept : IsScript (expanded_script rules trees)

-- no line uses a private name, and the text is within the limits of inputs
pub record HasText (rules : Rules) (trees : ScriptTrees) : Type 0 where
  pub unused : first_use rules.guard.profile rules.prefix (lines_in trees) ≡ None
  pub limits : AreWithinLimits (written_by rules (view trees.head) (lines_in trees))

-- why there is no text: some line uses a private name, and the first such line is reported, or no line does,
-- and the text is too large from this line on
abbrev pub IsUnmade : Rules → ScriptTrees → ℕ → ℕ → Type 0
IsUnmade rules trees line number =
    ((first_use rules.guard.profile rules.prefix (lines_in trees) ≡ Some line) × (number ≡ 11))
    ⊎ ((first_use rules.guard.profile rules.prefix (lines_in trees) ≡ None) × GrowsTooLarge rules (view trees.head) (lines_in trees) line × (number ≡ 10))

-- the bytes are a script of lines of these forms, of which the rules of its header's profile make no text:
-- a fault of kind 10 or 11
pub record MakesNoText (rules : Profile → Rules) (forms : LineForms) (bytes : List ℕ) (line number : ℕ) : Type 0 where
  pub trees : ScriptTrees
  pub reads : AreTreesOf forms bytes trees
  pub unmade : IsUnmade (rules trees.header.profile) trees line number

-- the fault that says why there is no text
abbrev pub fault_of : ExpandError → ScriptFault
fault_of (Private line) = Bad line 11
fault_of (Large line) = Bad line 10
fault_of OutOfMemory = lacks_memory
