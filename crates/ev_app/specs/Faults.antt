-- The faults of an input, for each command. A command has a line in `IsEarly`, `IsToldOn` and `IsLate`.
use Rattle.std.specs.Prelude.{◌≡◌, ℕ, ◌<◌, ◌≤◌, ◌⊎◌, IsTrue, List}
use Rattle.ev_script.specs.declared.fault_kinds.FaultKind.{FaultKind}
use Rattle.ev_script.specs.Faults.{Input, Stands, fault_order, fault_line, fault_number, plain_lines}
use Rattle.ev_audit_input.specs.Faults.{StandsWithJournal, IsToldWithJournal}
use Rattle.ev_chain_lines.specs.Lines.{chain_lines}
use Rattle.ev_sotw.specs.Lines.{sotw_lines}
use Rattle.ev_app.specs.declared.commands.Command.{Command}
use Rattle.ev_app.specs.declared.commands.Command.TheVariants.{Replay, Run, Audit, Soak, Tls, Dns, Chains, Sotw, Dump}
use Rattle.ev_tls.specs.Sealing.{tls_rules}
use Rattle.ev_dns.specs.Lines.{dns_lines}
use Rattle.ev_dns.specs.Resolving.{dns_rules}
use Rattle.ev_app.specs.Expansions.{MakesNoText}
use Rattle.ev_app.specs.Sotw.{GrowsTooLarge}
use Rattle.ev_app.specs.Dumps.{EndsNoCommit}

-- ---- early faults: of kinds 1 to 9, at a place

-- a fault at a place of the bytes taken
abbrev pub IsEarly : Command → Input → ℕ → FaultKind → Type 0
IsEarly Replay input place kind = Stands plain_lines input place kind
IsEarly Run input place kind = Stands plain_lines input place kind
IsEarly Audit input place kind = StandsWithJournal input place kind
IsEarly (Soak seed count) input place kind = ⊥
IsEarly Tls input place kind = Stands plain_lines input place kind
IsEarly Dns input place kind = Stands dns_lines input place kind
IsEarly Chains input place kind = Stands chain_lines input place kind
IsEarly Sotw input place kind = Stands sotw_lines input place kind
IsEarly (Dump entries) input place kind = StandsWithJournal input place kind

-- the line with which it is reported
abbrev pub IsToldOn : Command → Input → ℕ → FaultKind → ℕ → Type 0
IsToldOn Replay input place kind line = line ≡ fault_line input place kind
IsToldOn Run input place kind line = line ≡ fault_line input place kind
IsToldOn Audit input place kind line = IsToldWithJournal input place kind line
IsToldOn (Soak seed count) input place kind line = ⊥
IsToldOn Tls input place kind line = line ≡ fault_line input place kind
IsToldOn Dns input place kind line = line ≡ fault_line input place kind
IsToldOn Chains input place kind line = line ≡ fault_line input place kind
IsToldOn Sotw input place kind line = line ≡ fault_line input place kind
IsToldOn (Dump entries) input place kind line = IsToldWithJournal input place kind line

abbrev pub NoneEarly : Command → Input → Type 0
NoneEarly command input = (place : ℕ) (kind : FaultKind) → ¬ (IsEarly command input place kind)

-- the first early fault, which has this line and this number: no other is at an earlier place, or at its place with a
-- kind that is looked at before
pub record IsFirstEarly (command : Command) (input : Input) (line number : ℕ) : Type 0 where
  pub place : ℕ
  pub kind : FaultKind
  pub stands : IsEarly command input place kind
  pub first : (other : ℕ) (kind_there : FaultKind) → IsEarly command input other kind_there → (place < other) ⊎ ((place ≡ other) × (fault_order kind ≤ fault_order kind_there))
  pub told : IsToldOn command input place kind line
  pub numbered : number ≡ fault_number kind

-- ---- late faults: of kinds 10 to 12, of a whole input that has no early one

-- a late fault, by its line and its number
abbrev pub IsLate : Command → List ℕ → ℕ → ℕ → Type 0
IsLate Replay bytes line number = ⊥
IsLate Run bytes line number = ⊥
IsLate Audit bytes line number = ⊥
IsLate (Soak seed count) bytes line number = ⊥
IsLate Tls bytes line number = MakesNoText tls_rules plain_lines bytes line number
IsLate Dns bytes line number = MakesNoText dns_rules dns_lines bytes line number
IsLate Chains bytes line number = ⊥
IsLate Sotw bytes line number = GrowsTooLarge bytes line number
IsLate (Dump entries) bytes line number = EndsNoCommit entries bytes line number

-- ---- the fault that is reported

-- the first early fault of the bytes taken, or a late one, where they are the whole input and have no early one
abbrev pub IsFaultFor : Command → Input → ℕ → ℕ → Type 0
IsFaultFor command input line number =
    IsFirstEarly command input line number
    ⊎ (IsTrue input.ended × NoneEarly command input × IsLate command input.bytes line number)

-- the bytes taken have no fault
pub record HasNoneFor (command : Command) (input : Input) : Type 0 where
  pub early : NoneEarly command input
  pub late : IsTrue input.ended → (line number : ℕ) → ¬ (IsLate command input.bytes line number)

-- a read failed before the end of the input and before a fault of the bytes taken
pub record IsCutOff (command : Command) (input : Input) : Type 0 where
  pub goes_on : ¬ (IsTrue input.ended)
  pub sound : NoneEarly command input
