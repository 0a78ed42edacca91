-- What the text of a journal determines. This project's own.
use Rattle.std.specs.Prelude.{◌≡◌, ℕ, ◌<◌, ◌^◌, true, List, ◌∷◌, map, All}
use Rattle.ev_io.specs.Lines.{lines_of}
use Rattle.ev_types.specs.Scripts.{ScriptParts, IsScript}
use Rattle.ev_types.specs.declared.events.Entry.{Entry}
use Rattle.ev_types.specs.declared.journals.Format.{Format}
use Rattle.ev_types.specs.declared.journals.Row.{Row}
use Rattle.ev_model.specs.Operations.{IsRunOf}
use Rattle.ev_model.specs.Runs.{IsRun}
use Rattle.ev_journal.specs.Rendering.{entry_row, rendering_of}
use Rattle.ev_journal.specs.Rows.{IsRow, KeepsBounds, chosen_row}
use Rattle.ev_journal_read.specs.Journals.{first_text, IsJournalTo}

-- the row of each entry is one
abbrev pub HaveRows : List Entry → Type 0
HaveRows journal = All (λ (entry : Entry). IsRow (entry_row entry)) journal

-- each entry keeps what its types keep: its row's parts are within their bounds, and its line is UTF-8
abbrev pub AreBounded : List Entry → Type 0
AreBounded journal = All (λ (entry : Entry). KeepsBounds (entry_row entry)) journal

-- then the row of each entry of a run is one
abbrev pub RunsHaveRows : Type 0
RunsHaveRows =
    (format : Format) (workers : ℕ) (node : List ℕ) (journal : List Entry)
    → IsRun format workers node journal → AreBounded journal → HaveRows journal

-- the rows that are meant by those of the entries
abbrev pub meant_rows : List Entry → List Row
meant_rows journal = map (λ (entry : Entry). chosen_row (entry_row entry)) journal

-- the lines of a journal's text are those of a journal with the rows that are meant, to its end line
pub record ReadsAsJournal (format : Format) (workers : ℕ) (journal : List Entry) : Type 0 where
  pub texts : List (List ℕ)
  pub lines : lines_of (rendering_of format workers journal) ≡ first_text format workers ∷ texts
  pub reads : IsJournalTo workers (first_text format workers) texts format (meant_rows journal) true

-- this holds for every journal whose entries have rows
abbrev pub RendersJournals : Type 0
RendersJournals = (format : Format) (workers : ℕ) (journal : List Entry) → workers < 2 ^ 64 → HaveRows journal → ReadsAsJournal format workers journal

-- two journals that are runs on one script, by the rules of their formats,
-- and have one text are one journal of one format
abbrev pub TextTellsJournal : Type 0
TextTellsJournal =
    (script : ScriptParts) (format another : Format) (journal other : List Entry)
    → IsScript script → IsRunOf format script journal → IsRunOf another script other → AreBounded journal → AreBounded other
    → rendering_of format script.workers journal ≡ rendering_of another script.workers other
    → (format ≡ another) × (journal ≡ other)
