-- Runs of the script that a command writes, and where its input's lines are in it.
use Rattle.std.specs.Prelude.{ℕ, ◌+◌, List, length, take}
use Rattle.serde_json.specs.Data.{Data}
use Rattle.ev_types.specs.Scripts.{ScriptParts}
use Rattle.ev_types.specs.declared.events.Entry.{Entry}
use Rattle.ev_types.specs.declared.journals.Format.{Format}
use Rattle.ev_model.specs.Laws.{Told}
use Rattle.ev_expand.specs.Expanding.{Rules}
use Rattle.ev_expand.specs.Said.{given_lines}

-- a journal of a run of a script
abbrev pub run_told : Format → ScriptParts → List Entry → Told
run_told format script journal =
    record { format = format; workers = script.workers; node = script.node; journal = journal }

-- The number, in the text, of what a line of the input became. The lines of an input are counted from 0, after its
-- header.
abbrev pub place_given : Rules → List Data → ℕ → ℕ
place_given rules lines index = length (given_lines rules (take index lines)) + 2
