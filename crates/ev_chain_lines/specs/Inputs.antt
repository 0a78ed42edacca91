-- What is made of an input of filter chains.
use Rattle.std.specs.Prelude.{◌≡◌, ℕ, ◌+◌, ◌≤◌, false, IsTrue, ⊤, List, length, Option, Some, Vec, Result, Ok, Err}
use Rattle.std.specs.declared.alloc.Global.{Global}
use Rattle.std.specs.Io.KnownBytes.{IsAtEnd}
use Rattle.ev_io.specs.declared.limits.TheConstants.{MAX_INPUT_BYTES}
use Rattle.ev_io.specs.declared.faults.ScriptFault.{ScriptFault}
use Rattle.ev_io.specs.declared.faults.ScriptFault.TheVariants.{Bad, Read, OutOfMemory}
use Rattle.ev_io.specs.Outside.{Takes}
use Rattle.ev_script.specs.Faults.{Input, IsFaultOf, HasNoFault}
use Rattle.ev_chains.specs.Steps.{Event}
use Rattle.ev_chain_lines.specs.Lines.{chain_lines, events_of}
use Rattle.ev_chain_lines.specs.Texts.{chains_text}

-- the bytes' lines are events, and the text answers them
pub record IsChainsText (bytes text : List ℕ) : Type 0 where
  pub events : List Event
  pub reads : events_of bytes ≡ Some events
  pub answers : text ≡ chains_text events

-- the input is whole and without fault, and this text answers it
pub record IsAnswered (input : Input) (text : List ℕ) : Type 0 where
  pub ended : IsTrue input.ended
  pub sound : HasNoFault chain_lines input
  pub text_of : IsChainsText input.bytes text

-- what is made of an input, or why nothing is
abbrev pub IsMadeOf : Input → Result (Vec ℕ Global) ScriptFault → Type 0
IsMadeOf input (Ok text) = IsAnswered input text.items
IsMadeOf input (Err (Bad line kind)) = IsFaultOf chain_lines input line kind
IsMadeOf input (Err Read) = HasNoFault chain_lines input × (¬ (IsTrue input.ended))
IsMadeOf input (Err OutOfMemory) = ⊤

-- these bytes were taken, at most one more than an input may have,
-- to the end of the source where it gave that; no journal follows
pub record TakesChains (before after : Option (List ℕ)) (input : Input) : Type 0 where
  pub asked : input.audit ≡ false
  pub taken : Takes before after input.bytes
  pub at_most : length input.bytes ≤ MAX_INPUT_BYTES + 1
  pub ended : IsTrue input.ended → IsAtEnd after

-- what is known of a source's bytes before and after, and what is made of the bytes taken in between
pub record MakesChains (before after : Option (List ℕ)) (result : Result (Vec ℕ Global) ScriptFault) : Type 0 where
  pub input : Input
  pub takes : TakesChains before after input
  pub is : IsMadeOf input result
