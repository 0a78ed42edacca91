-- The text that answers a dump: the configuration after the first n entries of a legal journal, as a line, or what is
-- found of one that isn't legal.
use Rattle.std.specs.Prelude.{◌≡◌, ◌≢◌, ℕ, ⊤, ◌⊎◌, List, take, Result, Ok, Err}
use Rattle.ev_io.specs.declared.faults.ScriptFault.{ScriptFault}
use Rattle.ev_io.specs.declared.faults.ScriptFault.TheVariants.{Bad, Read, OutOfMemory as lacks_memory}
use Rattle.ev_types.specs.Scripts.{IsScript, ScriptParts}
use Rattle.ev_types.specs.declared.journals.Finding.TheVariants.{Legal}
use Rattle.ev_types.specs.declared.journals.Format.{Format}
use Rattle.ev_types.specs.declared.journals.Row.{Row}
use Rattle.ev_model.specs.Finding.{finding_of, journal_told}
use Rattle.ev_audit.specs.Texts.{finding_text}
use Rattle.ev_audit_input.specs.Parts.{IsParts}
use Rattle.ev_dump.specs.Dumps.{IsDump, IsNoCommit}
use Rattle.ev_app.specs.declared.status.Status.{Status}
use Rattle.ev_app.specs.declared.status.Status.TheVariants.{Done, Illegal}
use Rattle.ev_app.specs.declared.made.Made.{Made}

-- the rows aren't legal, and the text says what is found of them
pub record IsNotLegal (format : Format) (script : ScriptParts) (rows : List Row) (text : List ℕ) : Type 0 where
  pub wrong : finding_of format script rows ≢ Legal
  pub told : text ≡ finding_text (finding_of format script rows)

-- the dump of this many entries, with Done, or what is found of rows that aren't legal, with Illegal
abbrev pub IsDumpText : Format → ScriptParts → List Row → ℕ → Status → List ℕ → Type 0
IsDumpText format script rows entries status text =
    ((status ≡ Done) × IsDump format script rows entries text) ⊎ ((status ≡ Illegal) × IsNotLegal format script rows text)

-- each legal journal that agrees with these rows' in its first n entries has this dump of them
abbrev pub IsDumpByPrefix : Format → ScriptParts → List Row → ℕ → List ℕ → Type 0
IsDumpByPrefix format script rows entries text =
    (other : ScriptParts) (others : List Row) (another : List ℕ)
    → IsScript other → take entries (journal_told other others) ≡ take entries (journal_told script rows)
    → IsDump format other others entries another → another ≡ text

-- the bytes are a script, within the bounds of scripts, followed by a journal, and the text answers that
pub record IsDumped (entries : ℕ) (bytes : List ℕ) (status : Status) (text : List ℕ) : Type 0 where
  pub format : Format
  pub script : ScriptParts
  pub rows : List Row
  pub parts : IsParts bytes format script rows
  pub kept : IsScript script
  pub prefix : status ≡ Done → IsDumpByPrefix format script rows entries text
  pub dumped : IsDumpText format script rows entries status text

-- the bytes are a script followed by a legal journal, of which no commit ends with this many entries:
-- a fault at this line, of kind 12
pub record EndsNoCommit (entries : ℕ) (bytes : List ℕ) (line number : ℕ) : Type 0 where
  pub format : Format
  pub script : ScriptParts
  pub rows : List Row
  pub parts : IsParts bytes format script rows
  pub none : IsNoCommit format script rows entries line
  pub numbered : number ≡ 12

-- what is made of a script and the journal that follows it, or why nothing is
abbrev pub IsDumpAnswer : Format → ScriptParts → List Row → ℕ → Result Made ScriptFault → Type 0
IsDumpAnswer format script rows entries (Ok made) = IsDumpText format script rows entries made.status made.text.items
IsDumpAnswer format script rows entries (Err (Bad line number)) = IsNoCommit format script rows entries line × (number ≡ 12)
IsDumpAnswer format script rows entries (Err Read) = ⊥
IsDumpAnswer format script rows entries (Err lacks_memory) = ⊤
