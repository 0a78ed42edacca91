-- An input that is read as the trees of its lines.
use Rattle.std.specs.Prelude.{List, ℕ, false, Option, Result, Ok}
use Rattle.ev_io.specs.declared.faults.ScriptFault.{ScriptFault}
use Rattle.ev_script.specs.declared.trees.ScriptTrees.{ScriptTrees}
use Rattle.ev_script.specs.Faults.{Input, LineForms}
use Rattle.ev_script.specs.ReadTrees.{IsTreesAnswer}
use Rattle.ev_expand.specs.Said.{input_of_text}
use Rattle.ev_app.specs.Input.{TakesInput}

-- the bytes are a whole script whose lines have these forms, of these trees
abbrev pub AreTreesOf : LineForms → List ℕ → ScriptTrees → Type 0
AreTreesOf forms bytes trees = IsTreesAnswer forms (input_of_text bytes) (Ok trees)

-- what is known of a source's bytes before and after, and which trees the bytes taken in between are
pub record ReadsTrees (forms : LineForms) (before after : Option (List ℕ)) (result : Result ScriptTrees ScriptFault) : Type 0 where
  pub input : Input
  pub takes : TakesInput false before after input
  pub is : IsTreesAnswer forms input result
