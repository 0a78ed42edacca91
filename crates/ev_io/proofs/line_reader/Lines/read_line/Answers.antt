use Rattle.std.proofs.Common.{Some, Err, refl, ap, ◌∙◌}
use Rattle.std.proofs.lemmas.Result.{err_from_is_err_and}
use Rattle.ev_io.specs.LinesState.{LinesState}
use Rattle.ev_io.proofs.AnswerLemmas.{reads_by, step_line, step_lacking, step_stopped, step_end, step_fault, wanted}
use Rattle.ev_io.proofs.line_reader.Lines.read_line.Goals as goal

pub returns-in_err-length-clause-reads : goal.returns-in_err-length-clause-reads
returns-in_err-length-clause-reads g c =
    let p = err_from_is_err_and c.from_residual.result c.from_residual.ensures.1 in
    λ _.
    reads_by _ _ _ _ _ _ _ _ _ _ c.find.ensures.grows c.find.ensures.untouched
    (step_stopped _ _ _ c.find.result c.in_err-length.field-0.0 _ (p.1 ∙ ap Err p.2) c.in_err-length.was c.find.ensures.causes c.find.ensures.failed c.find.ensures.wanted c.find.ensures.no_memory)

pub returns-in_err-length-clause-untouched : goal.returns-in_err-length-clause-untouched
returns-in_err-length-clause-untouched g c = wanted _ _ _ _ c.find.ensures.untouched

pub returns-in_err-give-in-Line-clause-reads : goal.returns-in_err-give-in-Line-clause-reads
returns-in_err-give-in-Line-clause-reads g c =
    let p = err_from_is_err_and c.from_residual-in_err-give-in-Line.result c.from_residual-in_err-give-in-Line.ensures.1 in
    λ _.
    reads_by _ _ _ _ _ _ _ _ _ _ c.find.ensures.grows c.find.ensures.untouched
    (step_lacking _ _ _ _ _ _ (p.1 ∙ ap Err p.2) c.in_ok-length.ensures.told c.in_err-give-in-Line.ensures.unchanged c.in_err-give-in-Line.ensures.out)

pub returns-in_err-give-in-Line-clause-untouched :
    goal.returns-in_err-give-in-Line-clause-untouched
returns-in_err-give-in-Line-clause-untouched g c = wanted _ _ _ _ c.find.ensures.untouched

pub returns-in_ok-give-in-Line-clause-reads : goal.returns-in_ok-give-in-Line-clause-reads
returns-in_ok-give-in-Line-clause-reads g c = λ _.
    reads_by _ _ _ _ _ _ _ _ _ _ c.find.ensures.grows c.find.ensures.untouched
    (step_line _ _ _ _ _ _ _ c.in-Line.is c.in_ok-length.ensures.told c.in_ok-length.ensures.found c.in_ok-give-in-Line.ensures.given c.in_ok-give-in-Line.ensures.line)

pub returns-in_ok-give-in-Line-clause-untouched : goal.returns-in_ok-give-in-Line-clause-untouched
returns-in_ok-give-in-Line-clause-untouched g c = wanted _ _ _ _ c.find.ensures.untouched

pub returns-in-End-clause-reads : goal.returns-in-End-clause-reads
returns-in-End-clause-reads g c = λ _.
    reads_by _ _ _ _ _ _ _ _ _ _ c.find.ensures.grows c.find.ensures.untouched
    (step_end _ _ _ _ _ c.in-End.is c.in_ok-length.ensures.told c.in_ok-length.ensures.found refl)

pub returns-in-End-clause-untouched : goal.returns-in-End-clause-untouched
returns-in-End-clause-untouched g c = wanted _ _ _ _ c.find.ensures.untouched

pub returns-in-Fault-clause-reads : goal.returns-in-Fault-clause-reads
returns-in-Fault-clause-reads g c = λ _.
    reads_by _ _ _ _ _ _ _ _ _ _ c.find.ensures.grows c.find.ensures.untouched
    (step_fault _ _ _ _ _ _ _ c.in-Fault.is c.in_ok-length.ensures.found (ap (λ (s : LinesState). record s { told = Some c.in-Fault.fault }) c.self-in-Fault.view_is) refl)

pub returns-in-Fault-clause-untouched : goal.returns-in-Fault-clause-untouched
returns-in-Fault-clause-untouched g c = wanted _ _ _ _ c.find.ensures.untouched
