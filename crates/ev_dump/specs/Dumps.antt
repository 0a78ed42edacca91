-- What the dump of a journal is, by its script and its rows, and when there is none. This project's own.
use Rattle.std.specs.Prelude.{ℕ, ◌≡◌, ◌+◌, IsTrue, not, List, length, take}
use Rattle.ev_types.specs.Scripts.{ScriptParts, IsScript}
use Rattle.ev_types.specs.declared.journals.Finding.TheVariants.{Legal}
use Rattle.ev_types.specs.declared.journals.Format.{Format}
use Rattle.ev_types.specs.declared.journals.Row.{Row}
use Rattle.ev_model.specs.Finding.{finding_of, journal_told}
use Rattle.ev_actors.specs.Journals.{JournalParts}
use Rattle.ev_dump.specs.Fronts.{ends_commit}
use Rattle.ev_dump.specs.Texts.{dump_text}

-- the first n entries of a journal that rows record, with its format, workers and node
abbrev pub front_of : Format → ScriptParts → List Row → ℕ → JournalParts
front_of format script rows entries =
    record { format = format; workers = script.workers; node = script.node; journal = take entries (journal_told script rows) }

-- the text is the dump of this many entries: the rows are found legal, and a commit ends there
pub record IsDump (format : Format) (script : ScriptParts) (rows : List Row) (entries : ℕ) (text : List ℕ) : Type 0 where
  pub legal : finding_of format script rows ≡ Legal
  pub ends : IsTrue (ends_commit rows entries)
  pub line : text ≡ dump_text (front_of format script rows entries)

-- the number of the journal's end line: after the lines of its script come its first line and its rows
abbrev pub end_line : ScriptParts → List Row → ℕ
end_line script rows = script.count + length rows + 2

-- the rows are found legal, but no commit ends with this many entries, which is reported at the end line:
-- there are fewer, or the last of them is an accept or a close
pub record IsNoCommit (format : Format) (script : ScriptParts) (rows : List Row) (entries line : ℕ) : Type 0 where
  pub legal : finding_of format script rows ≡ Legal
  pub goes_on : IsTrue (not (ends_commit rows entries))
  pub told : line ≡ end_line script rows

-- dumps of journals that agree in their first entries are the same, whatever comes after,
-- and whatever their workers and nodes
abbrev pub DumpsByPrefix : Type 0
DumpsByPrefix =
    (format : Format) (script other : ScriptParts) (rows others : List Row) (entries : ℕ) (text another : List ℕ) → IsScript script → IsScript other
    → take entries (journal_told script rows) ≡ take entries (journal_told other others)
    → IsDump format script rows entries text → IsDump format other others entries another → text ≡ another
