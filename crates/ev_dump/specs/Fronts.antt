-- The first entries of a journal, up to where a commit ends. This project's own.
use Rattle.std.specs.Prelude.{ℕ, ◌≡◌, ◌≤◌, ◌-◌, ◌==◌, ⊤, Bool, true, false, not, IsTrue, if◌then◌else◌, List, [], ◌∷◌, length, take, Option, Some, None, slice_get}
use Rattle.ev_types.specs.Scripts.{ScriptParts, IsScript}
use Rattle.ev_types.specs.declared.events.Entry.{Entry}
use Rattle.ev_types.specs.declared.events.Op.{Op}
use Rattle.ev_types.specs.declared.events.Op.TheVariants.{Connect, Disconnect, Response, Health, FetchTimeout, DrainTimeout, TtlExpired, Publish, Reap, Accept, Close, Settle}
use Rattle.ev_types.specs.declared.journals.Finding.TheVariants.{Legal}
use Rattle.ev_types.specs.declared.journals.Format.{Format}
use Rattle.ev_types.specs.declared.journals.Row.{Row}
use Rattle.ev_model.specs.World.{World, opening}
use Rattle.ev_model.specs.Step.{step}
use Rattle.ev_model.specs.Runs.{IsRun}
use Rattle.ev_model.specs.Finding.{finding_of, journal_told}
use Rattle.ev_model_laws.specs.Drawing.{NumbersSuffice}
use Rattle.ev_dump.specs.Told.{AreTold}

-- the word of an accept or a close: its commit goes on, to its worker's settle
abbrev pub is_batched_word : Op → Bool
is_batched_word Accept = true
is_batched_word Close = true
is_batched_word Connect = false
is_batched_word Disconnect = false
is_batched_word Response = false
is_batched_word Health = false
is_batched_word FetchTimeout = false
is_batched_word DrainTimeout = false
is_batched_word TtlExpired = false
is_batched_word Publish = false
is_batched_word Reap = false
is_batched_word Settle = false

-- there is such a row, and its commit ends with it
abbrev pub is_end : Option Row → Bool
is_end None = false
is_end (Some row) = not (is_batched_word row.op)

-- a commit ends with the first n rows: there are that many, and the last of them, if any, is no accept and no close
abbrev pub ends_commit : List Row → ℕ → Bool
ends_commit rows entries = if entries == 0 then true else is_end (slice_get rows (entries - 1))

-- the numbers of generations suffice for what each of these entries brings, from this world on
abbrev pub SufficeFrom : Format → World → List Entry → Type 0
SufficeFrom format world [] = ⊤
SufficeFrom format world (entry ∷ entries) =
    NumbersSuffice world entry.event × SufficeFrom format (step format world entry.actor entry.event).0 entries

-- there are this many entries of the journal that rows record, the first rows record them,
-- and they are a run of the machine
pub record IsFront (format : Format) (script : ScriptParts) (rows : List Row) (entries : ℕ) : Type 0 where
  pub within : entries ≤ length rows
  pub told : AreTold script (take entries rows)
  pub journal : journal_told script (take entries rows) ≡ take entries (journal_told script rows)
  pub run : IsRun format script.workers script.node (take entries (journal_told script rows))
  pub numbers : SufficeFrom format (opening script.workers script.node) (take entries (journal_told script rows))

-- where rows are found legal, so it is with the entries up to where any commit ends
abbrev pub FrontsAreRuns : Type 0
FrontsAreRuns =
    (format : Format) (script : ScriptParts) (rows : List Row) (entries : ℕ) → IsScript script
    → finding_of format script rows ≡ Legal → IsTrue (ends_commit rows entries) → IsFront format script rows entries
