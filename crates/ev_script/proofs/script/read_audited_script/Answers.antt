-- The script before a journal.
use Rattle.std.proofs.Common.{◌≡◌, ◌+◌, ℕ, true, length, sym, ap, subst, arith}
use Rattle.ev_script.specs.declared.fault_kinds.FaultKind.TheVariants.{NotJournal}
use Rattle.ev_script.specs.Faults.{Input, plain_lines, fault_number, IsFaultOf}
use Rattle.ev_script.specs.ReadInput.{input_of, through_journal, EndsBefore, IsTold, IsUpToJournal}
use Rattle.ev_script.proofs.ScriptLemmas.{numbered_read, answer_audited}
use Rattle.ev_script.proofs.script.read_audited_script.Goals as goal

pub made_script-requires-clause-numbered : goal.made_script-requires-clause-numbered
made_script-requires-clause-numbered g c =
    let r = c.in_ok-read.ensures.reads in
    numbered_read (input_of true c.read_up_to_journal.new.lines r.0) c.in_ok-read.field-0.read r.3.0

pub returns-in_default-clause-reads : goal.returns-in_default-clause-reads
returns-in_default-clause-reads g c =
    let r = c.in_ok-read.ensures.reads in
    let input : Input = input_of true c.read_up_to_journal.new.lines r.0 in
    let given : c.number.result + 1 ≡ length c.in_ok-read.field-0.read.kept.items + 1 + 1 = omega (arith, c.number.ensures, c.in_ok-read.ensures.number, ap through_journal c.in_default.is) in
    let missing : IsFaultOf plain_lines input (length c.in_ok-read.field-0.read.kept.items + 1 + 1) (fault_number NotJournal) =
    subst (EndsBefore plain_lines input (length c.in_ok-read.field-0.read.kept.items + 1)) c.in_default.is r.3.1 in
    (r.0, r.1, r.2, subst (IsTold plain_lines input) (sym c.fault_at.ensures) (subst (λ (line : ℕ). IsFaultOf plain_lines input line (fault_number NotJournal)) (sym given) missing))

pub returns-clause-reads : goal.returns-clause-reads
returns-clause-reads g c =
    let r = c.in_ok-read.ensures.reads in
    let input : Input = input_of true c.read_up_to_journal.new.lines r.0 in
    let ends : IsUpToJournal plain_lines input (length c.in_ok-read.field-0.read.kept.items + 1) c.in-Some.journal.items =
    subst (EndsBefore plain_lines input (length c.in_ok-read.field-0.read.kept.items + 1)) c.in-Some.is r.3.1 in
    (r.0, r.1, r.2, answer_audited input c.in_ok-read.field-0.read c.in_ok-script.script c.in-Some.journal.items r.3.0 ends c.in_ok-script.ensures)
