-- The text that a script's replay has. Journals are of format 2.
use Rattle.std.specs.Prelude.{ℕ, ◌≡◌, List, false, Some}
use Rattle.ev_types.specs.declared.journals.Format.TheVariants.{Two}
use Rattle.ev_types.specs.Scripts.{IsScript, ScriptParts}
use Rattle.ev_types.specs.declared.events.Entry.{Entry}
use Rattle.ev_model.specs.Laws.{Laws}
use Rattle.ev_model.specs.Operations.{IsReplay}
use Rattle.ev_script.specs.Script.{script_of}
use Rattle.ev_journal.specs.Rendering.{rendering_of}
use Rattle.ev_journal_read.specs.OneJournal.{AreBounded}

-- the text is that of the journal of the script's replay, and the journal has the laws;
-- its entries keep what their types keep
pub record IsReplayText (script : ScriptParts) (text : List ℕ) : Type 0 where
  pub journal : List Entry
  pub replay : IsReplay Two script journal
  pub laws : Laws record { format = Two; workers = script.workers; node = script.node; journal = journal }
  pub rendered : text ≡ rendering_of Two script.workers journal
  pub bounded : AreBounded journal

-- the bytes are a script, within the bounds of scripts, and the text is that of its replay
pub record IsReplayOf (bytes text : List ℕ) : Type 0 where
  pub script : ScriptParts
  pub reads : script_of false bytes ≡ Some script
  pub kept : IsScript script
  pub replayed : IsReplayText script text
