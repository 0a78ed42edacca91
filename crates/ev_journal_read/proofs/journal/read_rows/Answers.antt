-- What is known of a journal at each step of reading it, and at the end.
use Rattle.std.proofs.Common.{◌≡◌, ◌+◌, ◌≤◌, ◌++◌, ℕ, List, true, IsTrue, Ok, Err, refl, sym, ap, subst, ◌∙◌, inl, inr, arith}
use Rattle.std.proofs.lemmas.Result.{err_from_is_err_and}
use Rattle.ev_io.specs.declared.faults.LineEnd.{LineEnd}
use Rattle.ev_io.specs.declared.faults.ScriptFault.{ScriptFault}
use Rattle.ev_io.proofs.GrowLemmas.{open_both}
use Rattle.ev_script.specs.ReadInput.{script_fault}
use Rattle.ev_journal_read.specs.Journals.{IsFirstAnswer, IsAdded, IsMisplaced}
use Rattle.ev_journal_read.proofs.JournalLemmas.{Reads, Exits, reading_none, reading_more, few_after, one_more, exit_early, exit_first, exit_memory, exit_line, exit_fault, exit_endless, exit_whole, still_at_end}
use Rattle.ev_journal_read.proofs.journal.read_rows.Goals as goal

pub returns-in_err-format-clause-reads : goal.returns-in_err-format-clause-reads
returns-in_err-format-clause-reads g c =
    let p = err_from_is_err_and c.from_residual.result c.from_residual.ensures.1 in
    rw (p.1, p.2) (exit_early c.args.workers c.args.first.now (g.S.Source.left c.args.source.now) c.args.lines.now)

pub returns-in_default-clause-reads : goal.returns-in_default-clause-reads
returns-in_default-clause-reads g c =
    subst (λ (fault : ScriptFault). Exits c.args.workers c.args.first.now (g.S.Source.left c.args.source.now) (g.S.Source.left c.args.source.now) c.args.lines.now c.args.lines.now (Err fault)) (sym c.misplaced.ensures)
    (exit_first c.args.workers c.args.first.now (g.S.Source.left c.args.source.now) c.args.lines.now c.number.result (subst (IsFirstAnswer c.args.first.now c.args.workers) c.in_default.is c.in_ok-format.ensures) c.number.ensures)

pub lines-init : goal.lines-init
lines-init g c =
    record {
      reading = reading_none (g.S.Source.left c.args.source.now) c.args.lines.now c.new.result.items c.requires.untold c.new.ensures.items;
      at_end = λ was. inl was;
      unended = record { before = λ goes_on. goes_on; unended = λ goes_on. refl };
      at_most = λ h. h;
      same_count = refl;
    }

pub lines-smaller : goal.lines-smaller
lines-smaller g c =
    let more : c.read_line.new.self.given ≡ c.lines.lines.given + 1 = one_more (g.S.Source.left c.args.source.now) (g.S.Source.left c.lines.source) (g.S.Source.left c.read_line.new.source) c.args.lines.now c.lines.lines c.read_line.new.self c.lines.body.rows.items c.lines.body.ended c.lines.text.items c.read_line.new.out.items c.lines.invariant.reading (subst (λ (end : LineEnd). Reads (g.S.Source.left c.lines.source) (g.S.Source.left c.read_line.new.source) c.lines.lines c.read_line.new.self c.lines.text.items c.read_line.new.out.items (Ok end)) c.in-Ok-Line.field-0-is (c.in-Ok-Line.ensures.reads c.lines.invariant.reading.untold)) c.requires.taken.0 c.requires.taken.1 in
    let few : c.read_line.new.self.given ≤ 200000 = few_after (g.S.Source.left c.args.source.now) (g.S.Source.left c.lines.source) (g.S.Source.left c.read_line.new.source) c.args.lines.now c.lines.lines c.read_line.new.self c.lines.body.rows.items c.lines.body.ended c.lines.text.items c.read_line.new.out.items c.read_line.result c.lines.invariant.reading (c.read_line.ensures.reads c.lines.invariant.reading.untold) c.requires.taken.0 c.requires.taken.1 in
    omega arith

pub lines-preserved : goal.lines-preserved
lines-preserved g c =
    let added : IsAdded c.lines.body c.add.new.self c.read_line.new.out.items true = subst (λ (t : List ℕ). IsAdded c.lines.body c.add.new.self t true) c.as_slice.ensures.value
    (subst (IsAdded c.lines.body c.add.new.self c.as_slice.result.now) c.if-not-in_place.false c.in_ok-in_place-in-Ok-Line.ensures) in
    record {
      reading = reading_more (g.S.Source.left c.args.source.now) (g.S.Source.left c.lines.source) (g.S.Source.left c.read_line.new.source) c.args.lines.now c.lines.lines c.read_line.new.self c.lines.body.rows.items c.add.new.self.rows.items c.lines.body.ended c.add.new.self.ended c.lines.text.items c.read_line.new.out.items c.lines.invariant.reading (subst (λ (end : LineEnd). Reads (g.S.Source.left c.lines.source) (g.S.Source.left c.read_line.new.source) c.lines.lines c.read_line.new.self c.lines.text.items c.read_line.new.out.items (Ok end)) c.in-Ok-Line.field-0-is (c.in-Ok-Line.ensures.reads c.lines.invariant.reading.untold)) c.requires.taken.0 c.requires.taken.1 added.0 added.1;
      at_end = still_at_end g.S.Source.left c.lines.source c.read_line.new.source c.lines.lines c.read_line.new.self (c.requires.taken.0 ++ c.lines.invariant.reading.more) (IsTrue c.args.lines.now.ended) c.lines.invariant.at_end c.read_line.ensures.at_end (c.read_line.ensures.untouched (c.requires.taken.0 ++ c.lines.invariant.reading.more) (c.lines.invariant.reading.taken c.requires.taken.0 c.requires.taken.1));
      unended = open_both _ _ _ _ _ _ _ c.lines.invariant.unended c.read_line.ensures.unended;
      at_most = λ h. c.read_line.ensures.at_most;
      same_count = elim c.in-Ok-Line.ensures.same_count [ inl same ↦ same ∙ c.lines.invariant.same_count | inr failed ↦ cc ];
    }

pub returns-then-not-in_place-clause-reads : goal.returns-then-not-in_place-clause-reads
returns-then-not-in_place-clause-reads g c =
    subst (λ (fault : ScriptFault). Exits c.args.workers c.args.first.now (g.S.Source.left c.args.source.now) (g.S.Source.left c.read_line.new.source) c.args.lines.now c.read_line.new.self (Err fault)) (sym c.misplaced-then-not-in_place.ensures)
    (exit_line c.args.workers c.args.first.now (g.S.Source.left c.args.source.now) (g.S.Source.left c.lines.source) (g.S.Source.left c.read_line.new.source) c.args.lines.now c.lines.lines c.read_line.new.self c.in-Some.format c.lines.body.rows.items c.lines.body.ended c.lines.text.items c.read_line.new.out.items (subst (IsFirstAnswer c.args.first.now c.args.workers) c.in-Some.is c.in_ok-format.ensures) c.lines.invariant.reading c.number-then-not-in_place.result (subst (λ (end : LineEnd). Reads (g.S.Source.left c.lines.source) (g.S.Source.left c.read_line.new.source) c.lines.lines c.read_line.new.self c.lines.text.items c.read_line.new.out.items (Ok end)) c.in-Ok-Line.field-0-is (c.in-Ok-Line.ensures.reads c.lines.invariant.reading.untold))
    (subst (IsMisplaced c.lines.body.rows.items c.lines.body.ended) c.as_slice.ensures.value
    (subst (IsAdded c.lines.body c.add.new.self c.as_slice.result.now) c.if-not-in_place.true c.in_ok-in_place-in-Ok-Line.ensures)) c.number-then-not-in_place.ensures)

pub returns-then-not-in_place-clause-at_end : goal.returns-then-not-in_place-clause-at_end
returns-then-not-in_place-clause-at_end g c =
    still_at_end g.S.Source.left c.lines.source c.read_line.new.source c.lines.lines c.read_line.new.self (c.requires.taken.0 ++ c.lines.invariant.reading.more) (IsTrue c.args.lines.now.ended) c.lines.invariant.at_end c.read_line.ensures.at_end (c.read_line.ensures.untouched (c.requires.taken.0 ++ c.lines.invariant.reading.more) (c.lines.invariant.reading.taken c.requires.taken.0 c.requires.taken.1))

pub returns-in_err-in_place-in-Ok-Line-clause-at_end : goal.returns-in_err-in_place-in-Ok-Line-clause-at_end
returns-in_err-in_place-in-Ok-Line-clause-at_end g c =
    still_at_end g.S.Source.left c.lines.source c.read_line.new.source c.lines.lines c.read_line.new.self (c.requires.taken.0 ++ c.lines.invariant.reading.more) (IsTrue c.args.lines.now.ended) c.lines.invariant.at_end c.read_line.ensures.at_end (c.read_line.ensures.untouched (c.requires.taken.0 ++ c.lines.invariant.reading.more) (c.lines.invariant.reading.taken c.requires.taken.0 c.requires.taken.1))

pub returns-in-Ok-End-clause-at_end : goal.returns-in-Ok-End-clause-at_end
returns-in-Ok-End-clause-at_end g c =
    still_at_end g.S.Source.left c.lines.source c.read_line.new.source c.lines.lines c.read_line.new.self (c.requires.taken.0 ++ c.lines.invariant.reading.more) (IsTrue c.args.lines.now.ended) c.lines.invariant.at_end c.read_line.ensures.at_end (c.read_line.ensures.untouched (c.requires.taken.0 ++ c.lines.invariant.reading.more) (c.lines.invariant.reading.taken c.requires.taken.0 c.requires.taken.1))

pub returns-in-Ok-End-2-clause-at_end : goal.returns-in-Ok-End-2-clause-at_end
returns-in-Ok-End-2-clause-at_end g c =
    still_at_end g.S.Source.left c.lines.source c.read_line.new.source c.lines.lines c.read_line.new.self (c.requires.taken.0 ++ c.lines.invariant.reading.more) (IsTrue c.args.lines.now.ended) c.lines.invariant.at_end c.read_line.ensures.at_end (c.read_line.ensures.untouched (c.requires.taken.0 ++ c.lines.invariant.reading.more) (c.lines.invariant.reading.taken c.requires.taken.0 c.requires.taken.1))

pub returns-in-Err-clause-at_end : goal.returns-in-Err-clause-at_end
returns-in-Err-clause-at_end g c =
    still_at_end g.S.Source.left c.lines.source c.read_line.new.source c.lines.lines c.read_line.new.self (c.requires.taken.0 ++ c.lines.invariant.reading.more) (IsTrue c.args.lines.now.ended) c.lines.invariant.at_end c.read_line.ensures.at_end (c.read_line.ensures.untouched (c.requires.taken.0 ++ c.lines.invariant.reading.more) (c.lines.invariant.reading.taken c.requires.taken.0 c.requires.taken.1))

pub returns-in_err-in_place-in-Ok-Line-clause-reads : goal.returns-in_err-in_place-in-Ok-Line-clause-reads
returns-in_err-in_place-in-Ok-Line-clause-reads g c =
    let p = err_from_is_err_and c.from_residual-in_err-in_place-in-Ok-Line.result c.from_residual-in_err-in_place-in-Ok-Line.ensures.1 in
    rw (p.1, p.2) (exit_memory c.args.workers c.args.first.now (g.S.Source.left c.args.source.now) (g.S.Source.left c.lines.source) (g.S.Source.left c.read_line.new.source) c.args.lines.now c.lines.lines c.read_line.new.self c.in-Some.format c.lines.body.rows.items c.lines.body.ended c.lines.text.items c.read_line.new.out.items (subst (IsFirstAnswer c.args.first.now c.args.workers) c.in-Some.is c.in_ok-format.ensures) c.lines.invariant.reading c.read_line.result (c.read_line.ensures.reads c.lines.invariant.reading.untold))

pub returns-in-Ok-End-clause-reads : goal.returns-in-Ok-End-clause-reads
returns-in-Ok-End-clause-reads g c =
    exit_whole c.args.workers c.args.first.now (g.S.Source.left c.args.source.now) (g.S.Source.left c.lines.source) (g.S.Source.left c.read_line.new.source) c.args.lines.now c.lines.lines c.read_line.new.self c.in-Some.format c.lines.body.rows c.lines.body.ended c.lines.text.items c.read_line.new.out.items (subst (IsFirstAnswer c.args.first.now c.args.workers) c.in-Some.is c.in_ok-format.ensures) c.lines.invariant.reading (subst (λ (end : LineEnd). Reads (g.S.Source.left c.lines.source) (g.S.Source.left c.read_line.new.source) c.lines.lines c.read_line.new.self c.lines.text.items c.read_line.new.out.items (Ok end)) c.in-Ok-End.field-0-is (c.in-Ok-End.ensures.reads c.lines.invariant.reading.untold)) c.if-body.true

pub overflow_add-number : goal.overflow_add-number
overflow_add-number g c =
    let few : c.read_line.new.self.given ≤ 200000 = few_after (g.S.Source.left c.args.source.now) (g.S.Source.left c.lines.source) (g.S.Source.left c.read_line.new.source) c.args.lines.now c.lines.lines c.read_line.new.self c.lines.body.rows.items c.lines.body.ended c.lines.text.items c.read_line.new.out.items c.read_line.result c.lines.invariant.reading (c.read_line.ensures.reads c.lines.invariant.reading.untold) c.requires.taken.0 c.requires.taken.1 in
    omega (arith, c.number-in-Ok-End-2.ensures)

pub returns-in-Ok-End-2-clause-reads : goal.returns-in-Ok-End-2-clause-reads
returns-in-Ok-End-2-clause-reads g c =
    subst (λ (fault : ScriptFault). Exits c.args.workers c.args.first.now (g.S.Source.left c.args.source.now) (g.S.Source.left c.read_line.new.source) c.args.lines.now c.read_line.new.self (Err fault)) (sym c.misplaced-in-Ok-End-2.ensures)
    (exit_endless c.args.workers c.args.first.now (g.S.Source.left c.args.source.now) (g.S.Source.left c.lines.source) (g.S.Source.left c.read_line.new.source) c.args.lines.now c.lines.lines c.read_line.new.self c.in-Some.format c.lines.body.rows.items c.lines.body.ended c.lines.text.items c.read_line.new.out.items (subst (IsFirstAnswer c.args.first.now c.args.workers) c.in-Some.is c.in_ok-format.ensures) c.lines.invariant.reading (c.number-in-Ok-End-2.result + 1) (subst (λ (end : LineEnd). Reads (g.S.Source.left c.lines.source) (g.S.Source.left c.read_line.new.source) c.lines.lines c.read_line.new.self c.lines.text.items c.read_line.new.out.items (Ok end)) c.in-Ok-End.field-0-is (c.in-Ok-End.ensures.reads c.lines.invariant.reading.untold)) c.if-body.false (ap (λ (i : ℕ). i + 1) c.number-in-Ok-End-2.ensures))

pub script_fault-requires : goal.script_fault-requires
script_fault-requires g c =
    let few : c.read_line.new.self.given ≤ 200000 = few_after (g.S.Source.left c.args.source.now) (g.S.Source.left c.lines.source) (g.S.Source.left c.read_line.new.source) c.args.lines.now c.lines.lines c.read_line.new.self c.lines.body.rows.items c.lines.body.ended c.lines.text.items c.read_line.new.out.items c.read_line.result c.lines.invariant.reading (c.read_line.ensures.reads c.lines.invariant.reading.untold) c.requires.taken.0 c.requires.taken.1 in
    omega (arith, c.number-in-Err.ensures)

pub returns-in-Err-clause-reads : goal.returns-in-Err-clause-reads
returns-in-Err-clause-reads g c =
    subst (λ (fault : ScriptFault). Exits c.args.workers c.args.first.now (g.S.Source.left c.args.source.now) (g.S.Source.left c.read_line.new.source) c.args.lines.now c.read_line.new.self (Err fault)) (sym (c.script_fault.ensures ∙ ap (λ (i : ℕ). script_fault i c.in-Err.fault) c.number-in-Err.ensures))
    (exit_fault c.args.workers c.args.first.now (g.S.Source.left c.args.source.now) (g.S.Source.left c.lines.source) (g.S.Source.left c.read_line.new.source) c.args.lines.now c.lines.lines c.read_line.new.self c.in-Some.format c.lines.body.rows.items c.lines.body.ended c.lines.text.items c.read_line.new.out.items (subst (IsFirstAnswer c.args.first.now c.args.workers) c.in-Some.is c.in_ok-format.ensures) c.lines.invariant.reading c.in-Err.fault (c.in-Err.ensures.reads c.lines.invariant.reading.untold))

pub returns-then-not-in_place-clause-unended : goal.returns-then-not-in_place-clause-unended
returns-then-not-in_place-clause-unended g c = open_both _ _ _ _ _ _ _ c.lines.invariant.unended c.read_line.ensures.unended

pub returns-in_err-in_place-in-Ok-Line-clause-unended : goal.returns-in_err-in_place-in-Ok-Line-clause-unended
returns-in_err-in_place-in-Ok-Line-clause-unended g c = open_both _ _ _ _ _ _ _ c.lines.invariant.unended c.read_line.ensures.unended

pub returns-in-Ok-End-clause-unended : goal.returns-in-Ok-End-clause-unended
returns-in-Ok-End-clause-unended g c = open_both _ _ _ _ _ _ _ c.lines.invariant.unended c.read_line.ensures.unended

pub returns-in-Ok-End-2-clause-unended : goal.returns-in-Ok-End-2-clause-unended
returns-in-Ok-End-2-clause-unended g c = open_both _ _ _ _ _ _ _ c.lines.invariant.unended c.read_line.ensures.unended

pub returns-in-Err-clause-unended : goal.returns-in-Err-clause-unended
returns-in-Err-clause-unended g c = open_both _ _ _ _ _ _ _ c.lines.invariant.unended c.read_line.ensures.unended
