-- What an audit's input has in it, and what a reader of such inputs answers.
use Rattle.std.specs.Prelude.{◌≡◌, ℕ, ◌+◌, ◌≤◌, true, IsTrue, ⊤, List, ◌∷◌, drop, length, Option, Some, Result, Ok, Err}
use Rattle.std.specs.Io.KnownBytes.{IsAtEnd}
use Rattle.ev_io.specs.declared.limits.TheConstants.{MAX_INPUT_BYTES}
use Rattle.ev_io.specs.declared.faults.ScriptFault.{ScriptFault}
use Rattle.ev_io.specs.declared.faults.ScriptFault.TheVariants.{Bad, Read, OutOfMemory}
use Rattle.ev_io.specs.Lines.{lines_of}
use Rattle.ev_io.specs.Outside.{Takes}
use Rattle.ev_types.specs.Scripts.{ScriptParts}
use Rattle.ev_types.specs.declared.journals.Format.{Format}
use Rattle.ev_types.specs.declared.journals.Row.{Row}
use Rattle.ev_script.specs.Faults.{Input}
use Rattle.ev_script.specs.Script.{script_of}
use Rattle.ev_journal_read.specs.Journals.{first_text, texts_of, AreMeant}
use Rattle.ev_audit_input.specs.Faults.{IsFaultWithJournal, HasNoFaultWithJournal}
use Rattle.ev_audit_input.specs.declared.audited.Audited.{Audited}

-- the bytes are this script and, after its lines, a journal for its workers:
-- the first line of this format, the texts of these rows, each of which is the one that is meant
-- by its text, and the end line
pub record IsParts (bytes : List ℕ) (format : Format) (script : ScriptParts) (rows : List Row) : Type 0 where
  pub reads : script_of true bytes ≡ Some script
  pub lines : drop script.count (lines_of bytes) ≡ first_text format script.workers ∷ texts_of rows true
  pub meant : AreMeant rows

-- the input is whole and without fault, and has these parts
pub record IsAuditInput (input : Input) (audited : Audited) : Type 0 where
  pub ended : IsTrue input.ended
  pub sound : HasNoFaultWithJournal input
  pub parts : IsParts input.bytes audited.format audited.script audited.rows.items

-- what an answer means: the parts of a whole input without fault,
-- the first fault of the bytes taken, or that these have none and go on
abbrev pub IsAuditInputAnswer : Input → Result Audited ScriptFault → Type 0
IsAuditInputAnswer input (Ok audited) = IsAuditInput input audited
IsAuditInputAnswer input (Err (Bad line number)) = IsFaultWithJournal input line number
IsAuditInputAnswer input (Err Read) = HasNoFaultWithJournal input × (¬ (IsTrue input.ended))
IsAuditInputAnswer input (Err OutOfMemory) = ⊤

-- what is known of a source's bytes before and after, and what the bytes taken in between are:
-- at most one more than an input may have, and to the end of the source where it gave that
pub record ReadsAuditInput (before after : Option (List ℕ)) (result : Result Audited ScriptFault) : Type 0 where
  pub input : Input
  pub asked : input.audit ≡ true
  pub taken : Takes before after input.bytes
  pub at_most : length input.bytes ≤ MAX_INPUT_BYTES + 1
  pub ended : IsTrue input.ended → IsAtEnd after
  pub is : IsAuditInputAnswer input result
