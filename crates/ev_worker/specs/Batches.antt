-- What a worker did since it settled, as entries of the journal.
use Rattle.std.specs.Prelude.{ℕ, Bool, if◌then◌else◌, List, map}
use Rattle.ev_types.specs.declared.events.Actor.TheVariants.{Worker as by_worker}
use Rattle.ev_types.specs.declared.events.Ask.{Ask}
use Rattle.ev_types.specs.declared.events.Event.TheVariants.{Accept, Close}
use Rattle.ev_types.specs.declared.events.Answer.{Answer}
use Rattle.ev_types.specs.declared.events.Answer.TheVariants.{InUse as in_use, Done as done, NotOpen as not_open}
use Rattle.ev_types.specs.declared.events.Entry.{Entry}
use Rattle.ev_model.specs.Choice.{choice_of}
use Rattle.ev_model.specs.Connections.{answer_of}
use Rattle.ev_model.specs.declared.pictures.Picture.{Picture}
use Rattle.ev_worker.specs.declared.lines.Accepted.{Accepted}
use Rattle.ev_worker.specs.declared.lines.Accepted.TheVariants.{InUse, Chosen}
use Rattle.ev_worker.specs.declared.lines.Closed.{Closed}
use Rattle.ev_worker.specs.declared.lines.Closed.TheVariants.{Done, NotOpen}
use Rattle.ev_worker.specs.declared.lines.Outcome.{Outcome}
use Rattle.ev_worker.specs.declared.lines.Outcome.TheVariants.{Accepted as accepted, Closed as closed}
use Rattle.ev_worker.specs.declared.lines.BatchLine.{BatchLine}

-- a batch: the worker that made it, and its lines in order
pub record BatchParts : Type 0 where
  pub worker : ℕ
  pub lines : List BatchLine

-- how an accept is answered in a picture, by whether a connection of its number is open
abbrev pub accepted_as : Picture → Ask → Bool → Accepted
accepted_as picture ask opened = if opened then InUse else Chosen (choice_of picture ask)

-- how a close is answered, by whether a connection of its number is open
abbrev pub closed_as : Bool → Closed
closed_as opened = if opened then Done else NotOpen

-- the line of an accept
abbrev pub accept_line : ℕ → Ask → Accepted → BatchLine
accept_line at ask outcome = record { at = at; event = Accept ask; outcome = accepted outcome }

-- the line of a close
abbrev pub close_line : ℕ → ℕ → Closed → BatchLine
close_line at connection outcome = record { at = at; event = Close connection; outcome = closed outcome }

-- the machine's answer for how an accept was answered in a picture
abbrev pub accepted_answer : Picture → Accepted → Answer
accepted_answer picture InUse = in_use
accepted_answer picture (Chosen choice) = answer_of picture choice

-- the machine's answer for how a close was answered
abbrev pub closed_answer : Closed → Answer
closed_answer Done = done
closed_answer NotOpen = not_open

-- the machine's answer for how a line was answered in a picture
abbrev pub outcome_answer : Picture → Outcome → Answer
outcome_answer picture (accepted outcome) = accepted_answer picture outcome
outcome_answer picture (closed outcome) = closed_answer outcome

-- a worker's line, made in a picture, as an entry
abbrev pub entry_of : ℕ → Picture → BatchLine → Entry
entry_of worker picture line =
    record { actor = by_worker worker; at = line.at; step = 0; event = line.event; answer = outcome_answer picture line.outcome }

-- a worker's lines, made in a picture, as entries
abbrev pub entries_of : ℕ → Picture → List BatchLine → List Entry
entries_of worker picture lines = map (entry_of worker picture) lines
