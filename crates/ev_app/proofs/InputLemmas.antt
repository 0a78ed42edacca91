-- What the input is, by what the reader of scripts answers.
use Rattle.std.proofs.Common.{◌≡◌, ℕ, true, false, List, [], IsTrue, Option, None, Some, Result, Ok, Err, refl, arith}
use Rattle.std.specs.Io.KnownBytes.{IsAtEnd}
use Rattle.ev_keys.specs.declared.Keys.{Keys}
use Rattle.ev_io.specs.declared.faults.ScriptFault.{ScriptFault}
use Rattle.ev_io.specs.declared.faults.ScriptFault.TheVariants.{Bad, Read, OutOfMemory}
use Rattle.ev_io.specs.Outside.{Takes}
use Rattle.ev_io.specs.LinesState.{LinesState, HasTaken, IsWithin}
use Rattle.ev_types.specs.Scripts.{ScriptParts}
use Rattle.ev_script.specs.Faults.{plain_lines}
use Rattle.ev_script.specs.ReadInput.{input_of}
use Rattle.ev_script.specs.ReadScript.{IsScriptAnswer}
use Rattle.ev_app.specs.Input.{TakesInput}
use Rattle.ev_app.specs.Scripts.{ReadsScript}

-- the bytes taken
pub taken_input : (before after : Option (List ℕ)) (state : LinesState) (bytes : List ℕ) → Takes before after bytes → HasTaken state bytes → IsWithin state → (IsTrue state.ended → IsAtEnd after) → TakesInput false before after (input_of false state bytes)
taken_input before after state bytes takes taken within ended = record {
  asked = refl;
  taken = takes;
  at_most = omega (arith, taken.count, within.taken);
  ended = ended;
}

-- what the reader of scripts ensures
abbrev pub Reads : Option (List ℕ) → Option (List ℕ) → LinesState → Result ScriptParts ScriptFault → Type 0
Reads before after state result = (bytes : List ℕ) × Takes before after bytes × HasTaken state bytes × IsScriptAnswer plain_lines (input_of false state bytes) result

pub reads_script : (before after : Option (List ℕ)) (state : LinesState) (script : ScriptParts) (keys : Keys) → IsWithin state → (IsTrue state.ended → IsAtEnd after) → Reads before after state (Ok script)
    → ReadsScript before after (Ok record { script = script; keys = keys })
reads_script before after state script keys within ended read = record {
  input = input_of false state read.0;
  takes = taken_input before after state read.0 read.1 read.2 within ended;
  is = record { ended = read.3.0.ended; sound = read.3.0.sound; reads = read.3.1 };
}

pub reads_fault : (before after : Option (List ℕ)) (state : LinesState) (fault : ScriptFault) → IsWithin state → (IsTrue state.ended → IsAtEnd after) → Reads before after state (Err fault) → ReadsScript before after (Err fault)
reads_fault before after state (Bad line kind) within ended read = record { input = input_of false state read.0; takes = taken_input before after state read.0 read.1 read.2 within ended; is = read.3 }
reads_fault before after state Read within ended read = record { input = input_of false state read.0; takes = taken_input before after state read.0 read.1 read.2 within ended; is = (read.3.0, read.3.1) }
reads_fault before after state OutOfMemory within ended read = record { input = input_of false state read.0; takes = taken_input before after state read.0 read.1 read.2 within ended; is = tt }

pub no_byte : (left : Option (List ℕ)) → Takes left left []
no_byte None = refl
no_byte (Some xs) = refl

-- nothing was taken
pub reads_nothing : (left : Option (List ℕ)) → ReadsScript left left (Err OutOfMemory)
reads_nothing left = record {
  input = record { bytes = []; ended = false; audit = false };
  takes = record { asked = refl; taken = no_byte left; at_most = omega arith; ended = λ no. let f : false ≡ true = no in cc };
  is = tt;
}
