-- What the input is, at each end.
use Rattle.std.proofs.Common.{◌≡◌, Err, ap}
use Rattle.std.proofs.lemmas.Result.{err_from_is_err_and}
use Rattle.ev_io.specs.declared.faults.ScriptFault.TheVariants.{Read}
use Rattle.ev_app.proofs.InputLemmas.{reads_fault, reads_nothing, reads_script}
use Rattle.ev_app.proofs.input.read_input.Goals as goal

pub returns-in_err-lines-clause-reads : goal.returns-in_err-lines-clause-reads
returns-in_err-lines-clause-reads g c =
    let p = err_from_is_err_and c.from_residual.result c.from_residual.ensures.1 in
    rw (p.1, p.2) (reads_nothing (g.S.Source.left c.args.source.now))

pub returns-in_err-script-clause-reads : goal.returns-in_err-script-clause-reads
returns-in_err-script-clause-reads g c =
    let p = err_from_is_err_and c.from_residual-in_err-script.result c.from_residual-in_err-script.ensures.1 in
    rw (p.1, p.2)
    (reads_fault (g.S.Source.left c.args.source.now) (g.S.Source.left c.read_script.new.source) c.read_script.new.lines c.in_err-script.field-0.0 c.in_err-script.ensures.at_most c.in_err-script.ensures.at_end c.in_err-script.ensures.reads)

pub returns-clause-reads : goal.returns-clause-reads
returns-clause-reads g c =
    reads_script (g.S.Source.left c.args.source.now) (g.S.Source.left c.read_script.new.source) c.read_script.new.lines c.in_ok-script.script c.keys.result c.in_ok-script.ensures.at_most c.in_ok-script.ensures.at_end c.in_ok-script.ensures.reads

pub returns-in_err-script-clause-unended : goal.returns-in_err-script-clause-unended
returns-in_err-script-clause-unended g c =
    let p = err_from_is_err_and c.from_residual-in_err-script.result c.from_residual-in_err-script.ensures.1 in
    rw (p.1, p.2)
    (λ e.
    let same : c.in_err-script.field-0.0 ≡ Read = cc in
    c.in_err-script.ensures.unended.unended (c.in_err-script.ensures.goes_on (ap Err same)))
