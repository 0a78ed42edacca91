-- The text that a threaded run of a script has. Journals are of format 2.
use Rattle.std.specs.Prelude.{ℕ, ◌≡◌, List, false, Some}
use Rattle.ev_types.specs.declared.journals.Format.{Format}
use Rattle.ev_types.specs.declared.journals.Format.TheVariants.{Two}
use Rattle.ev_types.specs.Scripts.{IsScript, ScriptParts}
use Rattle.ev_types.specs.declared.events.Entry.{Entry}
use Rattle.ev_model.specs.Laws.{Laws}
use Rattle.ev_model.specs.Operations.{IsRunOf}
use Rattle.ev_script.specs.Script.{script_of}
use Rattle.ev_journal.specs.Rendering.{rendering_of}
use Rattle.ev_journal_read.specs.OneJournal.{AreBounded}
use Rattle.ev_actors.specs.Resting.{IdleSettlesBringNews}

-- whichever run of the script has this text, its entries keeping what their types keep, is this journal,
-- by the rules of format 2
abbrev pub IsOnlyOne : ScriptParts → List ℕ → List Entry → Type 0
IsOnlyOne script text journal =
    (format : Format) (other : List Entry) → IsRunOf format script other → AreBounded other → rendering_of format script.workers other ≡ text
    → (format ≡ Two) × (other ≡ journal)

-- the text is that of a journal that is a run of the machine, holds each actor's operations in order,
-- idle settles aside, and no other actor's, and has the laws; where a worker rests it settles only for a newer picture.
-- Its entries keep what their types keep, and no other such journal has the text.
pub record IsRunText (script : ScriptParts) (text : List ℕ) : Type 0 where
  pub journal : List Entry
  pub run : IsRunOf Two script journal
  pub laws : Laws record { format = Two; workers = script.workers; node = script.node; journal = journal }
  pub rendered : text ≡ rendering_of Two script.workers journal
  pub news : IdleSettlesBringNews Two script.workers script.node journal
  pub bounded : AreBounded journal
  pub only : IsOnlyOne script text journal

-- the bytes are a script, within the bounds of scripts, and the text is that of a run of it
pub record IsTextOfRun (bytes text : List ℕ) : Type 0 where
  pub script : ScriptParts
  pub reads : script_of false bytes ≡ Some script
  pub kept : IsScript script
  pub ran : IsRunText script text
