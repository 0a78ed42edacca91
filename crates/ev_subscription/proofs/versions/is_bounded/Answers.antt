use Rattle.std.proofs.Common.{◌∙◌, ap}
use Rattle.ev_lookups.specs.Keys.{named}
use Rattle.ev_subscription.specs.declared.versions.Held.{Held}
use Rattle.ev_subscription.proofs.HeldLemmas.{told_of, bounded_found}
use Rattle.ev_subscription.proofs.versions.is_bounded.Goals as goal

pub returns-in-Some : goal.returns-in-Some
returns-in-Some c =
    ap (told_of (λ (held : Held). held.bounded)) c.in-Some.ensures.held
    ∙ bounded_found (named c.args.kind c.args.name.now) c.args.versions.now.entries c.find.ensures.ordered

pub returns-in-None : goal.returns-in-None
returns-in-None c =
    ap (told_of (λ (held : Held). held.bounded)) c.in-None.ensures.held
    ∙ bounded_found (named c.args.kind c.args.name.now) c.args.versions.now.entries c.find.ensures.ordered
