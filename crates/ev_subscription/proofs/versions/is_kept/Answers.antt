use Rattle.std.proofs.Common.{◌∙◌, ap, List, ℕ}
use Rattle.std.specs.Str.{bytes_eq}
use Rattle.ev_lookups.specs.Keys.{named}
use Rattle.ev_subscription.specs.declared.versions.Held.{Held}
use Rattle.ev_subscription.proofs.HeldLemmas.{told_of, kept_found}
use Rattle.ev_subscription.proofs.versions.is_kept.Goals as goal

pub returns-in-Some : goal.returns-in-Some
returns-in-Some c =
    c.eq.ensures
    ∙ ap (λ (text : List ℕ). bytes_eq text c.args.version.now) (c.as_str.ensures.bytes ∙ c.get.ensures.value)
    ∙ ap (told_of (λ (held : Held). bytes_eq held.version c.args.version.now)) c.in-Some.ensures.held
    ∙ kept_found (named c.args.kind c.args.name.now) c.args.version.now c.args.versions.now.entries c.find.ensures.ordered

pub returns-in-None : goal.returns-in-None
returns-in-None c =
    ap (told_of (λ (held : Held). bytes_eq held.version c.args.version.now)) c.in-None.ensures.held
    ∙ kept_found (named c.args.kind c.args.name.now) c.args.version.now c.args.versions.now.entries c.find.ensures.ordered
