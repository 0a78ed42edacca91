-- The text of what was sealed.
use Rattle.std.proofs.Common.{refl}
use Rattle.ev_app.specs.declared.status.Status.TheVariants.{Done}
use Rattle.ev_app.proofs.TlsLemmas.{tls_told}
use Rattle.ev_app.proofs.tls.tls_made.Goals as goal

pub returns-in-Ok-clause-answer : goal.returns-in-Ok-clause-answer
returns-in-Ok-clause-answer c =
    tls_told c.args.trees.now c.in-Ok.text record { text = c.in-Ok.text; status = Done }
    c.accepts_are_sealed.ensures c.in-Ok.ensures.expanded c.in-Ok.ensures.sound c.in-Ok.ensures.script c.in-Ok.ensures.kept refl refl
