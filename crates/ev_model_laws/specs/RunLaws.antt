-- Laws of every run, in both formats.
use Rattle.ev_model.specs.Runs.{IsRun}
use Rattle.ev_model.specs.Laws.{Told, Warmed, Forward, Unused, Once, Stays, Acknowledged, Waited, KeepsConnections, BodiesStay}
use Rattle.ev_model_laws.specs.Kept.{HasParts}
use Rattle.std.specs.Prelude.{ℕ, ◌≤◌, length}

-- the journal is a run
abbrev pub IsRunTold : Told → Type 0
IsRunTold told = IsRun told.format told.workers told.node told.journal

-- every run has the parts after any first entries
abbrev pub RunsHaveParts : Type 0
RunsHaveParts = (told : Told) → IsRunTold told → (k : ℕ) → k ≤ length told.journal → HasParts told k

-- connections go only to warmed generations
abbrev pub RunsOpenWarmed : Type 0
RunsOpenWarmed = (told : Told) → IsRunTold told → Warmed told

-- no worker's snapshot goes back
abbrev pub RunsGoForward : Type 0
RunsGoForward = (told : Told) → IsRunTold told → Forward told

-- a generation is destroyed only when no connection is open on it and no worker's snapshot holds it
abbrev pub RunsReapUnused : Type 0
RunsReapUnused = (told : Told) → IsRunTold told → Unused told

-- a generation is destroyed once
abbrev pub RunsReapOnce : Type 0
RunsReapOnce = (told : Told) → IsRunTold told → Once told

-- a refused update takes nothing away
abbrev pub RunsKeepRefused : Type 0
RunsKeepRefused = (told : Told) → IsRunTold told → Stays told

-- a response is acknowledged exactly where all its resources meet the written rules
abbrev pub RunsAcknowledge : Type 0
RunsAcknowledge = (told : Told) → IsRunTold told → Acknowledged told

-- in format 2 a listener that has served is destroyed only when its drain timeout has come
abbrev pub RunsWait : Type 0
RunsWait = (told : Told) → IsRunTold told → Waited told

-- a settle closes a connection whose chain was found only where its listener's drain timeout came
-- and its chain isn't shown; where it is shown, the connection stays open on the listener that shows it
abbrev pub RunsKeepConnections : Type 0
RunsKeepConnections = (told : Told) → IsRunTold told → KeepsConnections told

-- two chains of one origin have equal bodies
abbrev pub RunsKeepBodies : Type 0
RunsKeepBodies = (told : Told) → IsRunTold told → BodiesStay told
