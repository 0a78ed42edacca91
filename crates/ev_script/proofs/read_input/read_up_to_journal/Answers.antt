-- What is known of an input at each step of reading it, and at the end.
use Rattle.std.proofs.Common.{◌≡◌, ◌+◌, ◌≤◌, ℕ, List, Ok, Err, sym, ap, subst, ◌∙◌, inl, inr, arith}
use Rattle.std.proofs.lemmas.Result.{err_from_is_err_and}
use Rattle.ev_io.specs.declared.faults.LineEnd.{LineEnd}
use Rattle.ev_io.specs.declared.faults.ScriptFault.{ScriptFault}
use Rattle.ev_io.specs.declared.faults.ScriptFault.TheVariants.{Bad}
use Rattle.ev_io.proofs.GrowLemmas.{open_both}
use Rattle.ev_script.specs.declared.content.Content.TheVariants as is
use Rattle.ev_script.specs.Faults.{fault_number}
use Rattle.ev_script.specs.ReadInput.{script_fault}
use Rattle.ev_script.proofs.StepLemmas.{few_lines}
use Rattle.ev_script.proofs.ReadingLemmas.{Reads, Exits, IsReading, few_after, one_more, reading_more, content_at, exit_fault, exit_content, exit_journal, exit_end, exit_memory, told_open, still_at_end}
use Rattle.ev_script.proofs.read_input.read_up_to_journal.Goals as goal

pub returns-in_err-head-clause-reads : goal.returns-in_err-head-clause-reads
returns-in_err-head-clause-reads g c =
    let p = err_from_is_err_and c.from_residual.result c.from_residual.ensures.1 in
    let r = c.in_err-head.ensures.reads in
    rw (p.1, p.2) (r.0, r.1, r.2, r.3 c.args.audit)

pub lines-smaller : goal.lines-smaller
lines-smaller g c =
    let more : c.read_line.new.self.given ≡ c.lines.lines.given + 1 = one_more (g.S.Source.left c.lines.source) (g.S.Source.left c.read_line.new.source) c.lines.lines c.read_line.new.self c.lines.invariant.reading.bytes c.lines.text.items c.read_line.new.out.items c.lines.invariant.reading.taken (subst (λ (end : LineEnd). Reads (g.S.Source.left c.lines.source) (g.S.Source.left c.read_line.new.source) c.lines.lines c.read_line.new.self c.lines.text.items c.read_line.new.out.items (Ok end)) c.in-Ok-Line.field-0-is (c.in-Ok-Line.ensures.reads c.lines.invariant.reading.untold)) in
    let few : c.read_line.new.self.given ≤ 200000 = few_after (g.S.Source.left c.lines.source) (g.S.Source.left c.read_line.new.source) c.lines.lines c.read_line.new.self c.lines.invariant.reading.bytes c.lines.text.items c.read_line.new.out.items c.read_line.result c.lines.invariant.reading.taken (c.read_line.ensures.reads c.lines.invariant.reading.untold) in
    omega arith

pub lines-preserved : goal.lines-preserved
lines-preserved g c =
    record {
      reading = subst (λ (kept : List _). IsReading g.F.Forms.forms g.F.Forms.keeps_head g.F.Forms.keeps c.args.audit (g.S.Source.left c.args.source.now) (g.S.Source.left c.read_line.new.source) c.read_line.new.self c.in_ok-head.field-0.settings c.in_ok-head.field-0.kept kept) (sym c.in-Ok.ensures.items)
          (reading_more g.F.Forms.forms g.F.Forms.keeps_head g.F.Forms.keeps c.args.audit (g.S.Source.left c.args.source.now) (g.S.Source.left c.lines.source) (g.S.Source.left c.read_line.new.source) c.lines.lines c.read_line.new.self c.in_ok-head.field-0.settings c.in_ok-head.field-0.kept c.lines.kept.items c.in-Line.line c.lines.text.items c.read_line.new.out.items c.lines.invariant.reading (subst (λ (end : LineEnd). Reads (g.S.Source.left c.lines.source) (g.S.Source.left c.read_line.new.source) c.lines.lines c.read_line.new.self c.lines.text.items c.read_line.new.out.items (Ok end)) c.in-Ok-Line.field-0-is (c.in-Ok-Line.ensures.reads c.lines.invariant.reading.untold))
          (content_at g.F.Forms.forms g.F.Forms.keeps c.args.audit c.in_ok-head.field-0.settings c.number-at.result c.read_line.new.self.given c.as_slice.result.now c.read_line.new.out.items c.in_ok-line-in-Ok-Line.field-0 (is.Line c.in-Line.line) c.number-at.ensures c.as_slice.ensures.value c.in-Line.is c.in_ok-line-in-Ok-Line.ensures));
      at_end = still_at_end g.S.Source.left c.lines.source c.read_line.new.source c.lines.lines c.read_line.new.self c.lines.invariant.reading.bytes c.lines.invariant.at_end c.read_line.ensures.at_end (c.read_line.ensures.untouched c.lines.invariant.reading.bytes c.lines.invariant.reading.taken);
      unended = open_both _ _ _ _ _ _ _ c.lines.invariant.unended c.read_line.ensures.unended;
      at_most = c.read_line.ensures.at_most;
      same_count = elim c.in-Ok-Line.ensures.same_count [ inl same ↦ same ∙ c.lines.invariant.same_count | inr failed ↦ cc ];
    }

pub returns-in-Err-push-clause-reads : goal.returns-in-Err-push-clause-reads
returns-in-Err-push-clause-reads g c =
    exit_memory g.F.Forms.forms g.F.Forms.keeps_head g.F.Forms.keeps c.args.audit (g.S.Source.left c.args.source.now) (g.S.Source.left c.lines.source) (g.S.Source.left c.read_line.new.source) c.lines.lines c.read_line.new.self c.in_ok-head.field-0.settings c.in_ok-head.field-0.kept c.lines.kept.items c.read_line.result c.lines.text.items c.read_line.new.out.items c.lines.invariant.reading (c.read_line.ensures.reads c.lines.invariant.reading.untold)

pub returns-in_err-line-in-Ok-Line-clause-reads : goal.returns-in_err-line-in-Ok-Line-clause-reads
returns-in_err-line-in-Ok-Line-clause-reads g c =
    let p = err_from_is_err_and c.from_residual-in_err-line-in-Ok-Line.result c.from_residual-in_err-line-in-Ok-Line.ensures.1 in
    rw (p.1, p.2) (exit_memory g.F.Forms.forms g.F.Forms.keeps_head g.F.Forms.keeps c.args.audit (g.S.Source.left c.args.source.now) (g.S.Source.left c.lines.source) (g.S.Source.left c.read_line.new.source) c.lines.lines c.read_line.new.self c.in_ok-head.field-0.settings c.in_ok-head.field-0.kept c.lines.kept.items c.read_line.result c.lines.text.items c.read_line.new.out.items c.lines.invariant.reading (c.read_line.ensures.reads c.lines.invariant.reading.untold))

pub returns-in-Fault-clause-reads : goal.returns-in-Fault-clause-reads
returns-in-Fault-clause-reads g c =
    subst (λ (fault : ScriptFault). Exits g.F.Forms.forms g.F.Forms.keeps_head g.F.Forms.keeps c.args.audit (g.S.Source.left c.args.source.now) (g.S.Source.left c.read_line.new.source) c.read_line.new.self (Err fault)) (sym (c.fault_at.ensures ∙ ap (λ (n : ℕ). Bad n (fault_number c.in-Fault.kind)) c.number-at.ensures))
    (exit_content g.F.Forms.forms g.F.Forms.keeps_head g.F.Forms.keeps c.args.audit (g.S.Source.left c.args.source.now) (g.S.Source.left c.lines.source) (g.S.Source.left c.read_line.new.source) c.lines.lines c.read_line.new.self c.in_ok-head.field-0.settings c.in_ok-head.field-0.kept c.lines.kept.items c.in-Fault.kind c.lines.text.items c.read_line.new.out.items c.lines.invariant.reading (subst (λ (end : LineEnd). Reads (g.S.Source.left c.lines.source) (g.S.Source.left c.read_line.new.source) c.lines.lines c.read_line.new.self c.lines.text.items c.read_line.new.out.items (Ok end)) c.in-Ok-Line.field-0-is (c.in-Ok-Line.ensures.reads c.lines.invariant.reading.untold))
    (content_at g.F.Forms.forms g.F.Forms.keeps c.args.audit c.in_ok-head.field-0.settings c.number-at.result c.read_line.new.self.given c.as_slice.result.now c.read_line.new.out.items c.in_ok-line-in-Ok-Line.field-0 (is.Fault c.in-Fault.kind) c.number-at.ensures c.as_slice.ensures.value c.in-Fault.is c.in_ok-line-in-Ok-Line.ensures))

pub returns-in-Journal-clause-reads : goal.returns-in-Journal-clause-reads
returns-in-Journal-clause-reads g c =
    exit_journal g.F.Forms.forms g.F.Forms.keeps_head g.F.Forms.keeps c.args.audit (g.S.Source.left c.args.source.now) (g.S.Source.left c.lines.source) (g.S.Source.left c.read_line.new.source) c.lines.lines c.read_line.new.self c.in_ok-head.field-0.settings c.in_ok-head.field-0.kept c.lines.kept c.lines.text.items c.read_line.new.out c.lines.invariant.reading (subst (λ (end : LineEnd). Reads (g.S.Source.left c.lines.source) (g.S.Source.left c.read_line.new.source) c.lines.lines c.read_line.new.self c.lines.text.items c.read_line.new.out.items (Ok end)) c.in-Ok-Line.field-0-is (c.in-Ok-Line.ensures.reads c.lines.invariant.reading.untold))
    (content_at g.F.Forms.forms g.F.Forms.keeps c.args.audit c.in_ok-head.field-0.settings c.number-at.result c.read_line.new.self.given c.as_slice.result.now c.read_line.new.out.items c.in_ok-line-in-Ok-Line.field-0 is.Journal c.number-at.ensures c.as_slice.ensures.value c.in-Journal.is c.in_ok-line-in-Ok-Line.ensures)

pub returns-in-Journal-clause-few : goal.returns-in-Journal-clause-few
returns-in-Journal-clause-few g c =
    let few : c.lines.lines.given ≤ 200000 = few_lines c.lines.lines c.lines.invariant.reading.bytes c.lines.invariant.reading.taken in
    omega (arith, c.lines.invariant.reading.given)

pub returns-in-Ok-End-clause-few : goal.returns-in-Ok-End-clause-few
returns-in-Ok-End-clause-few g c =
    let few : c.lines.lines.given ≤ 200000 = few_lines c.lines.lines c.lines.invariant.reading.bytes c.lines.invariant.reading.taken in
    omega (arith, c.lines.invariant.reading.given)

pub script_fault-requires : goal.script_fault-requires
script_fault-requires g c =
    let few : c.read_line.new.self.given ≤ 200000 = few_after (g.S.Source.left c.lines.source) (g.S.Source.left c.read_line.new.source) c.lines.lines c.read_line.new.self c.lines.invariant.reading.bytes c.lines.text.items c.read_line.new.out.items c.read_line.result c.lines.invariant.reading.taken (c.read_line.ensures.reads c.lines.invariant.reading.untold) in
    omega (arith, c.number.ensures)

pub returns-in-Ok-End-clause-reads : goal.returns-in-Ok-End-clause-reads
returns-in-Ok-End-clause-reads g c =
    exit_end g.F.Forms.forms g.F.Forms.keeps_head g.F.Forms.keeps c.args.audit (g.S.Source.left c.args.source.now) (g.S.Source.left c.lines.source) (g.S.Source.left c.read_line.new.source) c.lines.lines c.read_line.new.self c.in_ok-head.field-0.settings c.in_ok-head.field-0.kept c.lines.kept c.lines.text.items c.read_line.new.out.items c.lines.invariant.reading (subst (λ (end : LineEnd). Reads (g.S.Source.left c.lines.source) (g.S.Source.left c.read_line.new.source) c.lines.lines c.read_line.new.self c.lines.text.items c.read_line.new.out.items (Ok end)) c.in-Ok-End.field-0-is (c.in-Ok-End.ensures.reads c.lines.invariant.reading.untold))

pub returns-in-Err-clause-reads : goal.returns-in-Err-clause-reads
returns-in-Err-clause-reads g c =
    subst (λ (fault : ScriptFault). Exits g.F.Forms.forms g.F.Forms.keeps_head g.F.Forms.keeps c.args.audit (g.S.Source.left c.args.source.now) (g.S.Source.left c.read_line.new.source) c.read_line.new.self (Err fault)) (sym (c.script_fault.ensures ∙ ap (λ (n : ℕ). script_fault n c.in-Err.fault) c.number.ensures))
    (exit_fault g.F.Forms.forms g.F.Forms.keeps_head g.F.Forms.keeps c.args.audit (g.S.Source.left c.args.source.now) (g.S.Source.left c.lines.source) (g.S.Source.left c.read_line.new.source) c.lines.lines c.read_line.new.self c.in_ok-head.field-0.settings c.in_ok-head.field-0.kept c.lines.kept.items c.in-Err.fault c.lines.text.items c.read_line.new.out.items c.lines.invariant.reading (c.in-Err.ensures.reads c.lines.invariant.reading.untold))

pub returns-in-Err-push-clause-unended : goal.returns-in-Err-push-clause-unended
returns-in-Err-push-clause-unended g c = open_both _ _ _ _ _ _ _ c.lines.invariant.unended c.read_line.ensures.unended

pub returns-in_err-line-in-Ok-Line-clause-unended : goal.returns-in_err-line-in-Ok-Line-clause-unended
returns-in_err-line-in-Ok-Line-clause-unended g c = open_both _ _ _ _ _ _ _ c.lines.invariant.unended c.read_line.ensures.unended

pub returns-in-Fault-clause-unended : goal.returns-in-Fault-clause-unended
returns-in-Fault-clause-unended g c = open_both _ _ _ _ _ _ _ c.lines.invariant.unended c.read_line.ensures.unended

pub returns-in-Journal-clause-unended : goal.returns-in-Journal-clause-unended
returns-in-Journal-clause-unended g c = open_both _ _ _ _ _ _ _ c.lines.invariant.unended c.read_line.ensures.unended

pub returns-in-Ok-End-clause-unended : goal.returns-in-Ok-End-clause-unended
returns-in-Ok-End-clause-unended g c = open_both _ _ _ _ _ _ _ c.lines.invariant.unended c.read_line.ensures.unended

pub returns-in-Err-clause-unended : goal.returns-in-Err-clause-unended
returns-in-Err-clause-unended g c = open_both _ _ _ _ _ _ _ c.lines.invariant.unended c.read_line.ensures.unended

pub returns-in-Err-clause-goes_on : goal.returns-in-Err-clause-goes_on
returns-in-Err-clause-goes_on g c =
    told_open g.F.Forms.forms g.F.Forms.keeps_head g.F.Forms.keeps c.args.audit (g.S.Source.left c.args.source.now) (g.S.Source.left c.read_line.new.source) c.read_line.new.self (Err c.script_fault.result) (returns-in-Err-clause-reads g c)
