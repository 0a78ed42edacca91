use Rattle.std.proofs.Common.{◌≡◌, sym, subst}
use Rattle.std.specs.Result.{IfOk}
use Rattle.ev_types.specs.Scripts.{IsScript}
use Rattle.ev_types.specs.declared.journals.Finding.{Finding}
use Rattle.ev_types.specs.declared.journals.Finding.TheVariants.{Legal}
use Rattle.ev_types.specs.declared.journals.Format.{Format}
use Rattle.ev_model.specs.Finding.{finding_of}
use Rattle.ev_audit.proofs.LegalLemmas.{has_legal}
use Rattle.ev_audit.proofs.audits.audit.Goals as goal

pub returns-clause-finding : goal.returns-clause-finding
returns-clause-finding c =
    subst (λ (format : Format). IfOk c.walk_over-found.result (λ (found : Finding). found ≡ finding_of format c.args.script.now c.args.rows.now)) c.in_ok-walk.ensures.format
    c.walk_over-found.ensures

pub returns-clause-legal : goal.returns-clause-legal
returns-clause-legal c = λ ok.
    let kept : IsScript c.args.script.now = subst IsScript c.script.view_is c.script.invariant in
    let found : Legal ≡ finding_of c.in_ok-walk.walk.courses.format c.args.script.now c.args.rows.now =
    subst (λ (r : _). IfOk r (λ (found : Finding). found ≡ finding_of c.in_ok-walk.walk.courses.format c.args.script.now c.args.rows.now)) ok c.walk_over-found.ensures in
    has_legal c.args.format c.args.script.now kept c.args.rows.now
    (sym (subst (λ (format : Format). Legal ≡ finding_of format c.args.script.now c.args.rows.now) c.in_ok-walk.ensures.format found))

pub walk_over-found-requires-clause-before : goal.walk_over-found-requires-clause-before
walk_over-found-requires-clause-before c = c.in_ok-walk.ensures.before c.args.rows.now
