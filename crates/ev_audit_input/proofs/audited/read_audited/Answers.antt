-- What the input is, at each end.
use Rattle.std.proofs.Common.{◌≡◌, List, ℕ, Ok, Err, ap, subst}
use Rattle.std.proofs.lemmas.Result.{err_from_is_err_and}
use Rattle.ev_io.specs.declared.faults.ScriptFault.TheVariants.{Read}
use Rattle.ev_types.specs.Scripts.{ScriptParts}
use Rattle.ev_audit_input.proofs.AnswerLemmas.{IsBehind, RowsRead, nothing_read, script_answer, rows_fault, rows_open, rows_read, rows_few, still_at_end}
use Rattle.ev_audit_input.proofs.audited.read_audited.Goals as goal

pub returns-in_err-lines-clause-reads : goal.returns-in_err-lines-clause-reads
returns-in_err-lines-clause-reads g c =
    let p = err_from_is_err_and c.from_residual.result c.from_residual.ensures.1 in
    rw (p.1, p.2) (nothing_read (g.S.Source.left c.args.source.now))

pub returns-in_err-audited-clause-reads : goal.returns-in_err-audited-clause-reads
returns-in_err-audited-clause-reads g c =
    let p = err_from_is_err_and c.from_residual-in_err-audited.result c.from_residual-in_err-audited.ensures.1 in
    rw (p.1, p.2)
    (script_answer (g.S.Source.left c.args.source.now) (g.S.Source.left c.read_audited_script.new.source) c.read_audited_script.new.lines c.in_err-audited.field-0.0 c.in_err-audited.ensures.at_most c.in_err-audited.ensures.at_end c.in_err-audited.ensures.reads)

pub returns-in_err-format-clause-reads : goal.returns-in_err-format-clause-reads
returns-in_err-format-clause-reads g c =
    let p = err_from_is_err_and c.from_residual-in_err-format.result c.from_residual-in_err-format.ensures.1 in
    let r = c.in_ok-audited.ensures.reads in
    let behind : IsBehind (g.S.Source.left c.args.source.now) (g.S.Source.left c.read_audited_script.new.source) c.read_audited_script.new.lines c.in_ok-audited.audited.script c.in_ok-audited.audited.journal.items =
    record { bytes = r.0; takes = r.1; taken = r.2; up = r.3.0; reads = r.3.1; given = c.in_ok-audited.ensures.number } in
    let read : RowsRead (g.S.Source.left c.read_audited_script.new.source) (g.S.Source.left c.read_rows.new.source) c.read_audited_script.new.lines c.read_rows.new.lines c.in_ok-audited.audited.script.workers c.in_ok-audited.audited.journal.items (Err c.in_err-format.field-0.0) =
    subst (λ (text : List ℕ). RowsRead (g.S.Source.left c.read_audited_script.new.source) (g.S.Source.left c.read_rows.new.source) c.read_audited_script.new.lines c.read_rows.new.lines c.in_ok-audited.audited.script.workers text (Err c.in_err-format.field-0.0)) c.as_slice.ensures.value
    (subst (λ (script : ScriptParts). RowsRead (g.S.Source.left c.read_audited_script.new.source) (g.S.Source.left c.read_rows.new.source) c.read_audited_script.new.lines c.read_rows.new.lines script.workers c.as_slice.result.now (Err c.in_err-format.field-0.0)) c.script.view_is c.in_err-format.ensures.reads) in
    rw (p.1, p.2)
    (rows_fault (g.S.Source.left c.args.source.now) (g.S.Source.left c.read_audited_script.new.source) (g.S.Source.left c.read_rows.new.source) c.read_audited_script.new.lines c.read_rows.new.lines c.in_ok-audited.audited.script c.in_ok-audited.audited.journal.items behind
    (c.in_err-format.ensures.at_most c.in_ok-audited.ensures.at_most)
    (still_at_end (g.S.Source.left c.read_audited_script.new.source) (g.S.Source.left c.read_rows.new.source) c.read_audited_script.new.lines c.read_rows.new.lines c.in_ok-audited.audited.script.workers c.in_ok-audited.audited.journal.items (Err c.in_err-format.field-0.0) read c.in_ok-audited.ensures.at_end c.in_err-format.ensures.at_end)
    c.in_err-format.field-0.0 read)

pub returns-clause-reads : goal.returns-clause-reads
returns-clause-reads g c =
    let r = c.in_ok-audited.ensures.reads in
    let behind : IsBehind (g.S.Source.left c.args.source.now) (g.S.Source.left c.read_audited_script.new.source) c.read_audited_script.new.lines c.in_ok-audited.audited.script c.in_ok-audited.audited.journal.items =
    record { bytes = r.0; takes = r.1; taken = r.2; up = r.3.0; reads = r.3.1; given = c.in_ok-audited.ensures.number } in
    let read : RowsRead (g.S.Source.left c.read_audited_script.new.source) (g.S.Source.left c.read_rows.new.source) c.read_audited_script.new.lines c.read_rows.new.lines c.in_ok-audited.audited.script.workers c.in_ok-audited.audited.journal.items (Ok (c.in_ok-format.format, c.in_ok-format.rows)) =
    subst (λ (text : List ℕ). RowsRead (g.S.Source.left c.read_audited_script.new.source) (g.S.Source.left c.read_rows.new.source) c.read_audited_script.new.lines c.read_rows.new.lines c.in_ok-audited.audited.script.workers text (Ok (c.in_ok-format.format, c.in_ok-format.rows))) c.as_slice.ensures.value
    (subst (λ (script : ScriptParts). RowsRead (g.S.Source.left c.read_audited_script.new.source) (g.S.Source.left c.read_rows.new.source) c.read_audited_script.new.lines c.read_rows.new.lines script.workers c.as_slice.result.now (Ok (c.in_ok-format.format, c.in_ok-format.rows))) c.script.view_is c.in_ok-format.ensures.reads) in
    rows_read (g.S.Source.left c.args.source.now) (g.S.Source.left c.read_audited_script.new.source) (g.S.Source.left c.read_rows.new.source) c.read_audited_script.new.lines c.read_rows.new.lines c.in_ok-audited.audited.script c.in_ok-audited.audited.journal.items behind
    (c.in_ok-format.ensures.at_most c.in_ok-audited.ensures.at_most)
    (still_at_end (g.S.Source.left c.read_audited_script.new.source) (g.S.Source.left c.read_rows.new.source) c.read_audited_script.new.lines c.read_rows.new.lines c.in_ok-audited.audited.script.workers c.in_ok-audited.audited.journal.items (Ok (c.in_ok-format.format, c.in_ok-format.rows)) read c.in_ok-audited.ensures.at_end c.in_ok-format.ensures.at_end)
    c.in_ok-format.format c.in_ok-format.rows c.keys.result read

pub returns-clause-few : goal.returns-clause-few
returns-clause-few g c =
    let r = c.in_ok-audited.ensures.reads in
    let behind : IsBehind (g.S.Source.left c.args.source.now) (g.S.Source.left c.read_audited_script.new.source) c.read_audited_script.new.lines c.in_ok-audited.audited.script c.in_ok-audited.audited.journal.items =
    record { bytes = r.0; takes = r.1; taken = r.2; up = r.3.0; reads = r.3.1; given = c.in_ok-audited.ensures.number } in
    let read : RowsRead (g.S.Source.left c.read_audited_script.new.source) (g.S.Source.left c.read_rows.new.source) c.read_audited_script.new.lines c.read_rows.new.lines c.in_ok-audited.audited.script.workers c.in_ok-audited.audited.journal.items (Ok (c.in_ok-format.format, c.in_ok-format.rows)) =
    subst (λ (text : List ℕ). RowsRead (g.S.Source.left c.read_audited_script.new.source) (g.S.Source.left c.read_rows.new.source) c.read_audited_script.new.lines c.read_rows.new.lines c.in_ok-audited.audited.script.workers text (Ok (c.in_ok-format.format, c.in_ok-format.rows))) c.as_slice.ensures.value
    (subst (λ (script : ScriptParts). RowsRead (g.S.Source.left c.read_audited_script.new.source) (g.S.Source.left c.read_rows.new.source) c.read_audited_script.new.lines c.read_rows.new.lines script.workers c.as_slice.result.now (Ok (c.in_ok-format.format, c.in_ok-format.rows))) c.script.view_is c.in_ok-format.ensures.reads) in
    rows_few (g.S.Source.left c.args.source.now) (g.S.Source.left c.read_audited_script.new.source) (g.S.Source.left c.read_rows.new.source) c.read_audited_script.new.lines c.read_rows.new.lines c.in_ok-audited.audited.script c.in_ok-audited.audited.journal.items behind
    (c.in_ok-format.ensures.at_most c.in_ok-audited.ensures.at_most)
    (still_at_end (g.S.Source.left c.read_audited_script.new.source) (g.S.Source.left c.read_rows.new.source) c.read_audited_script.new.lines c.read_rows.new.lines c.in_ok-audited.audited.script.workers c.in_ok-audited.audited.journal.items (Ok (c.in_ok-format.format, c.in_ok-format.rows)) read c.in_ok-audited.ensures.at_end c.in_ok-format.ensures.at_end)
    c.in_ok-format.format c.in_ok-format.rows read

pub returns-in_err-audited-clause-unended : goal.returns-in_err-audited-clause-unended
returns-in_err-audited-clause-unended g c =
    let p = err_from_is_err_and c.from_residual-in_err-audited.result c.from_residual-in_err-audited.ensures.1 in
    rw (p.1, p.2)
    (λ e.
    let same : c.in_err-audited.field-0.0 ≡ Read = cc in
    c.in_err-audited.ensures.unended.unended (c.in_err-audited.ensures.goes_on (ap Err same)))

pub returns-in_err-format-clause-unended : goal.returns-in_err-format-clause-unended
returns-in_err-format-clause-unended g c =
    let p = err_from_is_err_and c.from_residual-in_err-format.result c.from_residual-in_err-format.ensures.1 in
    let r = c.in_ok-audited.ensures.reads in
    rw (p.1, p.2)
    (λ e.
    let same : c.in_err-format.field-0.0 ≡ Read = cc in
    rows_open _ _ _ _ _ _ _ _ _ _ _ same (c.in_err-format.ensures.reads.2 r.0 r.2).1 c.in_ok-audited.ensures.unended c.in_err-format.ensures.unended)
