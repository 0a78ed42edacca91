-- What an audit makes of what was read.
use Rattle.std.proofs.Common.{ℕ, true, List, Option, Result, Ok, Err, inl}
use Rattle.ev_io.specs.declared.faults.ScriptFault.{ScriptFault}
use Rattle.ev_io.specs.declared.faults.ScriptFault.TheVariants.{Bad, Read, OutOfMemory as lacks_memory}
use Rattle.ev_types.specs.Scripts.{IsScript}
use Rattle.ev_model_laws.specs.LegalFindings.{LegalExactly}
use Rattle.ev_script.specs.Faults.{Input}
use Rattle.ev_audit_input.specs.declared.audited.Audited.{Audited}
use Rattle.ev_audit_input.specs.Faults.{IsFaultWithJournal}
use Rattle.ev_audit_input.specs.Parts.{ReadsAuditInput}
use Rattle.ev_app.specs.declared.commands.Command.TheVariants.{Audit, Dump}
use Rattle.ev_app.specs.declared.made.Made.{Made}
use Rattle.ev_app.specs.Audits.{IsAuditText}
use Rattle.ev_app.specs.Faults.{IsFirstEarly}
use Rattle.ev_app.specs.Input.{TakesInput}
use Rattle.ev_app.specs.Texts.{IsMadeBy}

-- what was taken
pub taken : {before after : Option (List ℕ)} {result : Result Audited ScriptFault} (read : ReadsAuditInput before after result) → TakesInput true before after read.input
taken read = record { asked = read.asked; taken = read.taken; at_most = read.at_most; ended = read.ended }

-- the first fault of the bytes, for a command that reads a script followed by a journal
pub audit_fault : (input : Input) (line number : ℕ) → IsFaultWithJournal input line number → IsFirstEarly Audit input line number
audit_fault input line number fault = record { place = fault.place; kind = fault.kind; stands = fault.stands; first = fault.first; told = fault.told; numbered = fault.numbered }

pub dump_fault : (entries : ℕ) (input : Input) (line number : ℕ) → IsFaultWithJournal input line number → IsFirstEarly (Dump entries) input line number
dump_fault entries input line number fault = record { place = fault.place; kind = fault.kind; stands = fault.stands; first = fault.first; told = fault.told; numbered = fault.numbered }

-- the line answers what was read
pub audited : (before after : Option (List ℕ)) (audited : Audited) (made : Made) → LegalExactly → IsScript audited.script → ReadsAuditInput before after (Ok audited)
    → IsAuditText audited.format audited.script audited.rows.items made.status made.text.items → IsMadeBy Audit before after (Ok made)
audited before after found made exactly kept read told = record {
  input = read.input;
  takes = taken read;
  is = record {
    ended = read.is.ended;
    sound = record { early = read.is.sound; late = λ whole line number no. no };
    answers = record {
      format = found.format;
      script = found.script;
      rows = found.rows.items;
      parts = read.is.parts;
      kept = kept;
      exactly = exactly found.format found.script found.rows.items kept;
      audited = told;
    };
  };
}

-- there was no memory for it
pub audit_lacks : (before after : Option (List ℕ)) (audited : Audited) → ReadsAuditInput before after (Ok audited) → IsMadeBy Audit before after (Err lacks_memory)
audit_lacks before after found read = record { input = read.input; takes = taken read; is = tt }

-- nothing was read
pub not_audited : (before after : Option (List ℕ)) (fault : ScriptFault) → ReadsAuditInput before after (Err fault) → IsMadeBy Audit before after (Err fault)
not_audited before after (Bad line number) read = record { input = read.input; takes = taken read; is = inl (audit_fault read.input line number read.is) }
not_audited before after Read read = record { input = read.input; takes = taken read; is = record { goes_on = read.is.1; sound = read.is.0 } }
not_audited before after lacks_memory read = record { input = read.input; takes = taken read; is = tt }
