use Rattle.std.proofs.Common.{◌∙◌, slice_get, ap}
use Rattle.ev_listeners.specs.Groups.{group_of, those_at}
use Rattle.ev_listeners.proofs.Grouped.{group_first}
use Rattle.ev_listeners.proofs.listeners.Listeners.at.Goals as goal

pub returns-in_default : goal.returns-in_default
returns-in_default c =
    ap (λ g. slice_get g 0) (ap group_of c.in_default.ensures ∙ c.self.invariant.addresses c.args.address.now ∙ ap (those_at c.args.address.now) c.self.view_is)
    ∙ group_first c.args.address.now c.args.self.now

pub returns : goal.returns
returns c =
    c.first_of.ensures
    ∙ ap (λ g. slice_get g 0)
    (c.as_slice.ensures.elements ∙ c.get-2.ensures.value ∙ ap group_of c.in-Some.ensures ∙ c.self.invariant.addresses c.args.address.now ∙ ap (those_at c.args.address.now) c.self.view_is)
    ∙ group_first c.args.address.now c.args.self.now
