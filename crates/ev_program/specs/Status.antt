-- How a call of the program ends, for every command.
use Rattle.std.specs.Prelude.{ℕ, ◌≡◌, ◌≤◌, ⊤, Bool, List, true, Option, Some}
use Rattle.std.specs.Io.KnownBytes.{append_known}
use Rattle.ev_io.specs.Outside.{Rose, AppendsPrefix}
use Rattle.ev_script.specs.Faults.{Input}
use Rattle.ev_app.specs.declared.commands.Command.{Command}
use Rattle.ev_app.specs.declared.commands.Command.TheVariants.{Replay, Run, Audit, Soak, Tls, Dns, Chains, Sotw, Dump}
use Rattle.ev_app.specs.declared.status.Status.{Status}
use Rattle.ev_app.specs.declared.status.Status.TheVariants.{Done, Illegal, Usage, BadScript, ReadFault, WriteFault, OutOfMemory}
use Rattle.ev_app.specs.Input.{has_journal, IsTakenFor}
use Rattle.ev_app.specs.Faults.{IsFaultFor, HasNoneFor, IsCutOff}
use Rattle.ev_app.specs.Texts.{IsAnswerTo}

-- what is known of a source and a sink, and what they counted, before a call and after it,
-- and whether the source had given its end
pub record Outside : Type 0 where
  pub left_before : Option (List ℕ)
  pub left_after : Option (List ℕ)
  pub ended_before : Bool
  pub ended_after : Bool
  pub reads_before : ℕ
  pub reads_after : ℕ
  pub written_before : Option (List ℕ)
  pub written_after : Option (List ℕ)
  pub writes_before : ℕ
  pub writes_after : ℕ

-- the same of a source of type S and a sink of type K, by what is known of them and what they count
abbrev pub outside_of : {S K : Type 0} → (S → Option (List ℕ)) → (S → Bool) → (S → ℕ) → (K → Option (List ℕ)) → (K → ℕ) → S → S → K → K → Outside
outside_of left ended reads written writes source source' sink sink' = record {
  left_before = left source;
  left_after = left source';
  ended_before = ended source;
  ended_after = ended source';
  reads_before = reads source;
  reads_after = reads source';
  written_before = written sink;
  written_after = written sink';
  writes_before = writes sink;
  writes_after = writes sink';
}

-- no read failed
abbrev pub ReadsWell : Outside → Type 0
ReadsWell outside = outside.reads_after ≡ outside.reads_before

-- no write failed
abbrev pub WritesWell : Outside → Type 0
WritesWell outside = outside.writes_after ≡ outside.writes_before

-- nothing is written, and no write failed
pub record WritesNothing (outside : Outside) : Type 0 where
  pub written : outside.written_after ≡ outside.written_before
  pub well : WritesWell outside

-- nothing is read or written, and nothing failed
pub record TouchesNothing (outside : Outside) : Type 0 where
  pub left : outside.left_after ≡ outside.left_before
  pub reads : ReadsWell outside
  pub written : WritesNothing outside

-- the source is at its end without a failed read, the bytes taken are an input
-- of the command without fault, and this text and this status answer it
pub record Makes (command : Command) (outside : Outside) (status : Status) (text : List ℕ) : Type 0 where
  pub input : Input
  pub takes : IsTakenFor command outside.left_before outside.left_after input
  pub is : IsAnswerTo command input status text
  pub reads : ReadsWell outside

-- the text that answers the input with this status is appended, without a failed write
pub record Writes (command : Command) (status : Status) (outside : Outside) : Type 0 where
  pub text : List ℕ
  pub made : Makes command outside status text
  pub appended : outside.written_after ≡ append_known outside.written_before text
  pub writes : WritesWell outside

-- the bytes taken have this fault, no read failed, and nothing is written
pub record Refuses (command : Command) (outside : Outside) (line number : ℕ) : Type 0 where
  pub input : Input
  pub takes : IsTakenFor command outside.left_before outside.left_after input
  pub fault : IsFaultFor command input line number
  pub reads : ReadsWell outside
  pub written : WritesNothing outside

-- a read failed before the end of the input and before a fault of the bytes taken, and nothing is written;
-- a source that hadn't given its end before didn't give it
pub record FailsToRead (command : Command) (outside : Outside) : Type 0 where
  pub input : Input
  pub takes : IsTakenFor command outside.left_before outside.left_after input
  pub cut_off : IsCutOff command input
  pub unended : outside.ended_after ≡ outside.ended_before
  pub rose : Rose outside.reads_before outside.reads_after
  pub written : WritesNothing outside

-- a text answers the input, a write failed, and a prefix of the text is appended
pub record FailsToWrite (command : Command) (outside : Outside) : Type 0 where
  pub status : Status
  pub text : List ℕ
  pub made : Makes command outside status text
  pub rose : Rose outside.writes_before outside.writes_after
  pub appended : AppendsPrefix outside.written_before outside.written_after text

-- there was no memory: the source was read without a fault, no further than in the other cases, and nothing is written
pub record LacksMemory (command : Command) (outside : Outside) : Type 0 where
  pub input : Input
  pub takes : IsTakenFor command outside.left_before outside.left_after input
  pub reads : ReadsWell outside
  pub written : WritesNothing outside

-- the source is known to have an input of the command without fault, and its count of faults didn't rise
pub record TellsInput (command : Command) (outside : Outside) : Type 0 where
  pub bytes : List ℕ
  pub told : outside.left_before ≡ Some bytes
  pub sound : HasNoneFor command record { bytes = bytes; ended = true; audit = has_journal command }
  pub no_read_fault : ¬ Rose outside.reads_before outside.reads_after

-- this holds for a command that reads an input; the others ask for nothing
abbrev pub IsToldFor : Command → Outside → Type 0
IsToldFor Replay outside = TellsInput Replay outside
IsToldFor Run outside = TellsInput Run outside
IsToldFor Audit outside = TellsInput Audit outside
IsToldFor (Soak seed count) outside = ⊤
IsToldFor Tls outside = TellsInput Tls outside
IsToldFor Dns outside = TellsInput Dns outside
IsToldFor Chains outside = TellsInput Chains outside
IsToldFor Sotw outside = TellsInput Sotw outside
IsToldFor (Dump entries) outside = TellsInput (Dump entries) outside

-- it is known what the command reads, and no write failed
pub record IsHonest (command : Command) (outside : Outside) : Type 0 where
  pub told : IsToldFor command outside
  pub no_write_fault : ¬ Rose outside.writes_before outside.writes_after

-- neither count of faults falls
pub record CountsOn (outside : Outside) : Type 0 where
  pub reads : outside.reads_before ≤ outside.reads_after
  pub writes : outside.writes_before ≤ outside.writes_after

-- how a call for a command ends, by its status
abbrev pub Ends : Status → Command → Outside → Type 0
-- the input was read to its end, it has no fault, and the whole text that answers it with Done was written
Ends Done command outside = Writes command Done outside
-- the same with a text that answers it with Illegal
Ends Illegal command outside = Writes command Illegal outside
-- no command ends so
Ends Usage command outside = ⊥
-- the input has this fault: nothing was written
Ends (BadScript line number) command outside = Refuses command outside line number
-- a read failed: nothing was written
Ends ReadFault command outside = FailsToRead command outside
-- a write failed: a prefix of the text was written
Ends WriteFault command outside = FailsToWrite command outside
-- out of memory: nothing was written
Ends OutOfMemory command outside = LacksMemory command outside
