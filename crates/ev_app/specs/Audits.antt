-- The text that answers an audit: what is found of the journal that follows a script, as a line.
use Rattle.std.specs.Prelude.{◌≡◌, ◌↔◌, ℕ, List}
use Rattle.ev_types.specs.Scripts.{IsScript, ScriptParts}
use Rattle.ev_types.specs.declared.journals.Finding.{Finding}
use Rattle.ev_types.specs.declared.journals.Finding.TheVariants.{Legal, IllegalAt, NotTheScript}
use Rattle.ev_types.specs.declared.journals.Format.{Format}
use Rattle.ev_types.specs.declared.journals.Row.{Row}
use Rattle.ev_model.specs.Finding.{finding_of}
use Rattle.ev_model_laws.specs.LegalFindings.{IsLegalJournal}
use Rattle.ev_audit.specs.Audits.{HasLegalJournal}
use Rattle.ev_audit.specs.Texts.{finding_text}
use Rattle.ev_audit_input.specs.Parts.{IsParts}
use Rattle.ev_app.specs.declared.status.Status.{Status}
use Rattle.ev_app.specs.declared.status.Status.TheVariants.{Done, Illegal}

-- the status that goes with what is found
abbrev pub status_found : Finding → Status
status_found Legal = Done
status_found (IllegalAt entry) = Illegal
status_found (NotTheScript entry) = Illegal

-- the text says what is found of the rows, with its status;
-- where they are legal, they are those of a run that has all laws
pub record IsAuditText (format : Format) (script : ScriptParts) (rows : List Row) (status : Status) (text : List ℕ) : Type 0 where
  pub told : text ≡ finding_text (finding_of format script rows)
  pub goes : status ≡ status_found (finding_of format script rows)
  pub legal : finding_of format script rows ≡ Legal → HasLegalJournal format script rows

-- rows are found legal exactly where they are those of a run of the machine
-- that holds each actor's operations of the script
abbrev pub IsFoundExactly : Format → ScriptParts → List Row → Type 0
IsFoundExactly format script rows = (finding_of format script rows ≡ Legal) ↔ IsLegalJournal format script rows

-- the bytes are a script, within the bounds of scripts, followed by a journal, and the text says what is found of that
pub record IsAudited (bytes : List ℕ) (status : Status) (text : List ℕ) : Type 0 where
  pub format : Format
  pub script : ScriptParts
  pub rows : List Row
  pub parts : IsParts bytes format script rows
  pub kept : IsScript script
  pub exactly : IsFoundExactly format script rows
  pub audited : IsAuditText format script rows status text
