-- An input without fault that the source is known to have isn't refused;
-- a failed read is reported where the source didn't give its end.
use Rattle.std.proofs.Common.{Err, refl, ap, subst}
use Rattle.ev_io.specs.declared.faults.ScriptFault.{ScriptFault}
use Rattle.ev_app.specs.Texts.{IsMade}
use Rattle.ev_program.specs.Status.{outside_of}
use Rattle.ev_program.proofs.CompleteLemmas.{not_refused, not_cut_off}
use Rattle.ev_program.proofs.program.run_command.Goals as goal

pub returns-in-Err-Bad-clause-completes : goal.returns-in-Err-Bad-clause-completes
returns-in-Err-Bad-clause-completes g c = λ honest.
    let r = c.in-Err-Bad.ensures.made in
    absurd (not_refused c.args.command (outside_of g.S.Source.left g.S.Source.ended g.S.Source.faults g.K.Sink.written g.K.Sink.faults c.args.source.now c.make.new.source c.args.sink.now c.args.sink.now) c.in-Err-Bad.line c.in-Err-Bad.kind r.input r.takes
    (subst (λ (fault : ScriptFault). IsMade c.args.command r.input (Err fault)) c.in-Err-Bad.field-0-is r.is) honest)

pub returns-in-Err-Read-clause-completes : goal.returns-in-Err-Read-clause-completes
returns-in-Err-Read-clause-completes g c = λ honest.
    let r = c.in-Err-Read.ensures.made in
    absurd (not_cut_off c.args.command (outside_of g.S.Source.left g.S.Source.ended g.S.Source.faults g.K.Sink.written g.K.Sink.faults c.args.source.now c.make.new.source c.args.sink.now c.args.sink.now) r.input r.takes
    (subst (λ (fault : ScriptFault). IsMade c.args.command r.input (Err fault)) c.in-Err-Read.field-0-is r.is)
    (c.in-Err-Read.ensures.failed (ap Err c.in-Err-Read.field-0-is)) honest)

pub returns-in-Err-Read-clause-ends : goal.returns-in-Err-Read-clause-ends
returns-in-Err-Read-clause-ends g c =
    let r = c.in-Err-Read.ensures.made in
    record {
      input = r.input;
      takes = r.takes;
      cut_off = subst (λ (fault : ScriptFault). IsMade c.args.command r.input (Err fault)) c.in-Err-Read.field-0-is r.is;
      unended = c.in-Err-Read.ensures.unended (ap Err c.in-Err-Read.field-0-is);
      rose = c.in-Err-Read.ensures.failed (ap Err c.in-Err-Read.field-0-is);
      written = record { written = refl; well = refl };
    }
