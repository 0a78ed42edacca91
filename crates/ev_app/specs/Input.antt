-- What is taken of the input.
use Rattle.std.specs.Prelude.{◌≡◌, ℕ, ◌+◌, ◌≤◌, Bool, true, false, IsTrue, List, [], length, Option}
use Rattle.std.specs.Io.KnownBytes.{IsAtEnd}
use Rattle.ev_io.specs.declared.limits.TheConstants.{MAX_INPUT_BYTES}
use Rattle.ev_io.specs.Outside.{Takes}
use Rattle.ev_script.specs.Faults.{Input}
use Rattle.ev_app.specs.declared.commands.Command.{Command}
use Rattle.ev_app.specs.declared.commands.Command.TheVariants.{Replay, Run, Audit, Soak, Tls, Dns, Chains, Sotw, Dump}

-- these bytes were taken, at most one more than an input may have,
-- to the end of the source where it gave that; whether a journal has to follow the script is `audit`
pub record TakesInput (audit : Bool) (before after : Option (List ℕ)) (input : Input) : Type 0 where
  pub asked : input.audit ≡ audit
  pub taken : Takes before after input.bytes
  pub at_most : length input.bytes ≤ MAX_INPUT_BYTES + 1
  pub ended : IsTrue input.ended → IsAtEnd after

-- whether a journal has to follow the script that a command reads
abbrev pub has_journal : Command → Bool
has_journal Replay = false
has_journal Run = false
has_journal Audit = true
has_journal (Soak seed count) = false
has_journal Tls = false
has_journal Dns = false
has_journal Chains = false
has_journal Sotw = false
has_journal (Dump entries) = true

-- nothing was taken: the source is as it was, and the input is empty and ended
pub record TakesNothing (before after : Option (List ℕ)) (input : Input) : Type 0 where
  pub left : after ≡ before
  pub empty : input ≡ record { bytes = []; ended = true; audit = false }

-- this was taken for a command
abbrev pub IsTakenFor : Command → Option (List ℕ) → Option (List ℕ) → Input → Type 0
IsTakenFor Replay before after input = TakesInput (has_journal Replay) before after input
IsTakenFor Run before after input = TakesInput (has_journal Run) before after input
IsTakenFor Audit before after input = TakesInput (has_journal Audit) before after input
IsTakenFor (Soak seed count) before after input = TakesNothing before after input
IsTakenFor Tls before after input = TakesInput (has_journal Tls) before after input
IsTakenFor Dns before after input = TakesInput (has_journal Dns) before after input
IsTakenFor Chains before after input = TakesInput (has_journal Chains) before after input
IsTakenFor Sotw before after input = TakesInput (has_journal Sotw) before after input
IsTakenFor (Dump entries) before after input = TakesInput (has_journal (Dump entries)) before after input
