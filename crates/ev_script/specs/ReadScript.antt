-- What a reader of scripts answers.
use Rattle.std.specs.Prelude.{◌≡◌, ℕ, ◌+◌, ◌<◌, true, false, All, slice_index_or, List, length, Some, Result, Ok, Err, option_and_then}
use Rattle.serde_json.specs.Data.{Data}
use Rattle.ev_io.specs.declared.faults.ScriptFault.{ScriptFault}
use Rattle.ev_types.specs.Events.{MayMake}
use Rattle.ev_types.specs.Scripts.{ScriptParts}
use Rattle.ev_types.specs.declared.events.Line.{Line}
use Rattle.ev_types.specs.declared.events.Profile.{Profile}
use Rattle.ev_script.specs.declared.header.Header.{Header}
use Rattle.ev_script.specs.declared.script.AuditedScript.{AuditedScript}
use Rattle.ev_script.specs.Members.{tree_of}
use Rattle.ev_script.specs.Header.{header_of, IsHeader}
use Rattle.ev_script.specs.Lines.{line_of}
use Rattle.ev_script.specs.Faults.{LineForms, Input, worker_of, plain_lines}
use Rattle.ev_script.specs.Script.{script_of}
pub use Rattle.ev_script.specs.Script.{script_made}
use Rattle.ev_script.specs.ReadInput.{IsTold, IsWhole, IsUpToJournal}

-- a first line by these forms is the header of a script
abbrev pub HeadsScripts : LineForms → Type 0
HeadsScripts forms = (tree : Data) → forms.heads tree ≡ plain_lines.heads tree

-- what is kept of a line by these forms is the line of a script
abbrev pub KeepsLines : LineForms → (Profile → ℕ → Data → Line → Type 0) → Type 0
KeepsLines forms keeps = (profile : Profile) (at : ℕ) (tree : Data) (line : Line)
    → keeps profile at tree line
    → (line_of profile at tree ≡ Some line) × (forms.lines profile at tree ≡ Some (worker_of line.actor))

-- the tree is that of this header
abbrev pub IsHeadOf : Data → Header → Type 0
IsHeadOf tree header = (header_of tree ≡ Some header) × IsHeader header

-- the text is that of this header
abbrev pub IsHeaderOf : List ℕ → Header → Type 0
IsHeaderOf text header = option_and_then header_of (tree_of text) ≡ Some header

-- what an answer means: the script of an input without fault, or the first fault of the bytes taken
abbrev pub IsScriptAnswer : LineForms → Input → Result ScriptParts ScriptFault → Type 0
IsScriptAnswer forms input (Ok script) = IsWhole forms input script.count × (script_of false input.bytes ≡ Some script)
IsScriptAnswer forms input (Err fault) = IsTold forms input fault

-- the same of an audit's input: the script of the lines before the journal, and the journal's first line
abbrev pub IsAuditedAnswer : Input → Result AuditedScript ScriptFault → Type 0
IsAuditedAnswer input (Ok audited) = IsUpToJournal plain_lines input audited.script.count audited.journal.items × (script_of true input.bytes ≡ Some audited.script)
IsAuditedAnswer input (Err fault) = IsTold plain_lines input fault

-- lines that are numbered one after another from 2 on, each with an actor that may make its event,
-- where there are that many workers
pub record AreNumbered (workers : ℕ) (lines : List Line) : Type 0 where
  pub places : (k : ℕ) (line : Line) → k < length lines → (slice_index_or lines k line).at ≡ k + 2
  pub allowed : All (λ (line : Line). MayMake workers line.actor line.event) lines
