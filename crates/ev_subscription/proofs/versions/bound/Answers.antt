use Rattle.std.proofs.Common.{◌∙◌, ap, sym, true, BTreeMap}
use Rattle.ev_model.specs.Versions.{renewed}
use Rattle.ev_subscription.specs.Held.{versions_in}
use Rattle.ev_subscription.specs.declared.keys.VersionKey.{VersionKey}
use Rattle.ev_subscription.specs.declared.versions.Held.{Held}
use Rattle.ev_subscription.proofs.HeldLemmas.{bound_missed, bound_written, held_bounded}
use Rattle.ev_subscription.proofs.versions.bound.Goals as goal

pub returns-in-Some : goal.returns-in-Some
returns-in-Some c =
    ap versions_in ((c.get_mut.follows.holds (record c.in-Some.held.now { bounded = true })).0
    ∙ bound_written c.new.result c.args.versions.now.entries c.in-Some.held.now c.len.ensures.ordered (sym c.in-Some.ensures.value))
    ∙ held_bounded c.new.result c.args.versions.now.entries
    ∙ (λ i. renewed (c.new.ensures i).kind (c.new.ensures i).name (versions_in c.args.versions.now.entries))

pub returns-in_default : goal.returns-in_default
returns-in_default c =
    ap versions_in (ap (λ (m : BTreeMap VersionKey Held). m.entries) c.get_mut.follows.holds-at-none
    ∙ bound_missed c.new.result c.args.versions.now.entries (sym c.in_default.ensures.value))
    ∙ held_bounded c.new.result c.args.versions.now.entries
    ∙ (λ i. renewed (c.new.ensures i).kind (c.new.ensures i).name (versions_in c.args.versions.now.entries))
