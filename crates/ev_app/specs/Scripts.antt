-- An input that is read as a script and nothing else.
use Rattle.std.specs.Prelude.{◌≡◌, ℕ, false, IsTrue, ⊤, List, Option, Some, Result, Ok, Err}
use Rattle.ev_io.specs.declared.faults.ScriptFault.{ScriptFault}
use Rattle.ev_io.specs.declared.faults.ScriptFault.TheVariants.{Bad, Read, OutOfMemory}
use Rattle.ev_types.specs.Scripts.{ScriptParts}
use Rattle.ev_script.specs.Faults.{Input, IsFaultOf, HasNoFault, plain_lines}
use Rattle.ev_script.specs.Script.{script_of}
use Rattle.ev_app.specs.Input.{TakesInput}
use Rattle.ev_app.specs.declared.input.KeyedScript.{KeyedScript}

-- the bytes to the end of the input are this script, which has no fault
pub record IsInput (input : Input) (script : ScriptParts) : Type 0 where
  pub ended : IsTrue input.ended
  pub sound : HasNoFault plain_lines input
  pub reads : script_of false input.bytes ≡ Some script

-- what an answer about the input means
abbrev pub IsInputAnswer : Input → Result KeyedScript ScriptFault → Type 0
IsInputAnswer input (Ok read) = IsInput input read.script
IsInputAnswer input (Err (Bad line kind)) = IsFaultOf plain_lines input line kind
IsInputAnswer input (Err Read) = HasNoFault plain_lines input × (¬ (IsTrue input.ended))
IsInputAnswer input (Err OutOfMemory) = ⊤

-- what is known of a source's bytes before and after, and what the bytes taken in between are
pub record ReadsScript (before after : Option (List ℕ)) (result : Result KeyedScript ScriptFault) : Type 0 where
  pub input : Input
  pub takes : TakesInput false before after input
  pub is : IsInputAnswer input result
