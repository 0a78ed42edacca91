-- How far the walk of an audit has come, and what a legal finding says. This project's own.
use Rattle.std.specs.Prelude.{ℕ, ◌≡◌, Bool, true, false, not, if◌then◌else◌, List, Option, Some, None, option_and_then}
use Rattle.std.specs.List.{last_or}
use Rattle.ev_types.specs.Scripts.{ScriptParts}
use Rattle.ev_types.specs.declared.events.Actor.{Actor}
use Rattle.ev_types.specs.declared.events.Entry.{Entry}
use Rattle.ev_types.specs.declared.events.Op.{Op}
use Rattle.ev_types.specs.declared.events.Op.TheVariants.{Connect, Disconnect, Response, Health, FetchTimeout, DrainTimeout, TtlExpired, Publish, Reap, Accept, Close, Settle}
use Rattle.ev_types.specs.declared.journals.Format.{Format}
use Rattle.ev_types.specs.declared.journals.Row.{Row}
use Rattle.ev_model.specs.Laws.{Laws}
use Rattle.ev_model.specs.Operations.{actor_same}
use Rattle.ev_model.specs.Runs.{is_batched}
use Rattle.ev_model.specs.World.{World}
use Rattle.ev_model_laws.specs.LegalFindings.{IsLegalJournal}
use Rattle.ev_proxy.specs.Proxies.{IsAt}
use Rattle.ev_model_laws.specs.Walks.{NothingFound, journal_before, world_behind}
use Rattle.ev_operations.specs.Courses.{HaveCome}
use Rattle.ev_audit.specs.declared.walk.Walk.{Walk}

-- the word of a settle
abbrev pub is_settle_word : Op → Bool
is_settle_word Settle = true
is_settle_word Connect = false
is_settle_word Disconnect = false
is_settle_word Response = false
is_settle_word Health = false
is_settle_word FetchTimeout = false
is_settle_word DrainTimeout = false
is_settle_word TtlExpired = false
is_settle_word Publish = false
is_settle_word Reap = false
is_settle_word Accept = false
is_settle_word Close = false

-- the word of an accept or a close
abbrev pub is_batched_word : Op → Bool
is_batched_word Accept = true
is_batched_word Close = true
is_batched_word Connect = false
is_batched_word Disconnect = false
is_batched_word Response = false
is_batched_word Health = false
is_batched_word FetchTimeout = false
is_batched_word DrainTimeout = false
is_batched_word TtlExpired = false
is_batched_word Publish = false
is_batched_word Reap = false
is_batched_word Settle = false

-- whose batch is open after a row: after an accept or close that of its actor
abbrev pub batch_after : Row → Option Actor
batch_after row = if is_batched_word row.op then Some row.actor else None

-- whose batch is open after an entry
abbrev pub batch_behind : Entry → Option Actor
batch_behind entry = if is_batched entry.event then Some entry.actor else None

-- whose batch is open after a journal
abbrev pub open_batch : List Entry → Option Actor
open_batch journal = option_and_then batch_behind (last_or None journal)

-- an entry of the actor breaks into the open batch
abbrev pub breaks_open : Option Actor → Actor → Bool
breaks_open None actor = false
breaks_open (Some of) actor = not (actor_same actor of)

-- the world after the rows before this place
abbrev pub world_before : Format → ScriptParts → List Row → ℕ → World
world_before format script rows place = world_behind format script (journal_before script rows place)

-- the walk is before this place of the rows: nothing is found so far, and it knows the machine,
-- each actor's course and the open batch after the journal of the rows before
pub record IsBefore (script : ScriptParts) (rows : List Row) (place : ℕ) (walk : Walk) : Type 0 where
  pub none : NothingFound walk.courses.format script rows place
  pub proxy : IsAt walk.proxy (world_before walk.courses.format script rows place)
  pub courses : HaveCome script (journal_before script rows place) walk.courses
  pub batch : walk.batch ≡ open_batch (journal_before script rows place)

-- the rows are those of a run that holds the script's operations, and the run has all laws
pub record HasLegalJournal (format : Format) (script : ScriptParts) (rows : List Row) : Type 0 where
  pub legal : IsLegalJournal format script rows
  pub laws : Laws (record { format = format; workers = script.workers; node = script.node; journal = legal.journal })
