-- What answers an input, for each command. A command has a line in `Answers` and `IsAnswered`.
use Rattle.std.specs.Prelude.{◌≡◌, ℕ, ◌⊎◌, IsTrue, ⊤, List, Option, Result, Ok, Err}
use Rattle.ev_io.specs.declared.faults.ScriptFault.{ScriptFault}
use Rattle.ev_io.specs.declared.faults.ScriptFault.TheVariants.{Bad, Read, OutOfMemory as lacks_memory}
use Rattle.ev_script.specs.Faults.{Input}
use Rattle.ev_app.specs.declared.commands.Command.{Command}
use Rattle.ev_app.specs.declared.commands.Command.TheVariants.{Replay, Run, Audit, Soak, Tls, Dns, Chains, Sotw, Dump}
use Rattle.ev_app.specs.declared.status.Status.{Status}
use Rattle.ev_app.specs.declared.status.Status.TheVariants.{Done, Illegal, OutOfMemory}
use Rattle.ev_app.specs.declared.made.Made.{Made}
use Rattle.ev_app.specs.Input.{IsTakenFor}
use Rattle.ev_app.specs.Faults.{IsFaultFor, HasNoneFor, IsCutOff}
use Rattle.ev_app.specs.Replay.{IsReplayOf}
use Rattle.ev_app.specs.Runs.{IsTextOfRun}
use Rattle.ev_app.specs.Audits.{IsAudited}
use Rattle.ev_app.specs.Tls.{IsTls}
use Rattle.ev_app.specs.Dns.{IsDns}
use Rattle.ev_app.specs.Sotw.{IsSotw}
use Rattle.ev_app.specs.Dumps.{IsDumped}
use Rattle.ev_app.specs.Chains.{IsChained}
use Rattle.ev_soak.specs.Lines.{IsSoakText}

-- the text that answers a whole input without fault, and the status that goes with it
abbrev pub Answers : Command → List ℕ → Status → List ℕ → Type 0
Answers Replay bytes status text = (status ≡ Done) × IsReplayOf bytes text
Answers Run bytes status text = (status ≡ Done) × IsTextOfRun bytes text
Answers Audit bytes status text = IsAudited bytes status text
Answers (Soak seed count) bytes status text = (status ≡ Done) × IsSoakText seed count text
Answers Tls bytes status text = (status ≡ Done) × IsTls bytes text
Answers Dns bytes status text = (status ≡ Done) × IsDns bytes text
Answers Chains bytes status text = (status ≡ Done) × IsChained bytes text
Answers Sotw bytes status text = (status ≡ Done) × IsSotw bytes text
Answers (Dump entries) bytes status text = IsDumped entries bytes status text

-- how a call ends where nothing fails and the input has no fault
abbrev pub IsAnswered : Command → Status → Type 0
IsAnswered Replay status = (status ≡ Done) ⊎ (status ≡ OutOfMemory)
IsAnswered Run status = (status ≡ Done) ⊎ (status ≡ OutOfMemory)
IsAnswered Audit status = (status ≡ Done) ⊎ ((status ≡ Illegal) ⊎ (status ≡ OutOfMemory))
IsAnswered (Soak seed count) status = (status ≡ Done) ⊎ (status ≡ OutOfMemory)
IsAnswered Tls status = (status ≡ Done) ⊎ (status ≡ OutOfMemory)
IsAnswered Dns status = (status ≡ Done) ⊎ (status ≡ OutOfMemory)
IsAnswered Chains status = (status ≡ Done) ⊎ (status ≡ OutOfMemory)
IsAnswered Sotw status = (status ≡ Done) ⊎ (status ≡ OutOfMemory)
IsAnswered (Dump entries) status = (status ≡ Done) ⊎ ((status ≡ Illegal) ⊎ (status ≡ OutOfMemory))

-- the input is whole and without fault, and this text and this status answer it
pub record IsAnswerTo (command : Command) (input : Input) (status : Status) (text : List ℕ) : Type 0 where
  pub ended : IsTrue input.ended
  pub sound : HasNoneFor command input
  pub answers : Answers command input.bytes status text

-- what is made of the input, or why nothing is
abbrev pub IsMade : Command → Input → Result Made ScriptFault → Type 0
IsMade command input (Ok made) = IsAnswerTo command input made.status made.text.items
IsMade command input (Err (Bad line number)) = IsFaultFor command input line number
IsMade command input (Err Read) = IsCutOff command input
IsMade command input (Err lacks_memory) = ⊤

-- what is known of a source's bytes before and after, and what is made of the bytes taken in between
pub record IsMadeBy (command : Command) (before after : Option (List ℕ)) (result : Result Made ScriptFault) : Type 0 where
  pub input : Input
  pub takes : IsTakenFor command before after input
  pub is : IsMade command input result
