-- The text of what was resolved.
use Rattle.std.proofs.Common.{refl}
use Rattle.ev_app.specs.declared.status.Status.TheVariants.{Done}
use Rattle.ev_app.proofs.DnsLemmas.{dns_told}
use Rattle.ev_app.proofs.dns.dns_made.Goals as goal

pub returns-in-Ok-clause-answer : goal.returns-in-Ok-clause-answer
returns-in-Ok-clause-answer c =
    dns_told c.args.trees.now c.in-Ok.text record { text = c.in-Ok.text; status = Done }
    c.answers_are_last.ensures c.in-Ok.ensures.expanded c.in-Ok.ensures.sound c.in-Ok.ensures.script c.in-Ok.ensures.kept refl refl
