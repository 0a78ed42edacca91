use Rattle.std.proofs.Common.{◌∙◌, find, slice_get, sym, ap}
use Rattle.ev_model.specs.Connections.{shows_chain}
use Rattle.ev_listeners.specs.Groups.{group_of}
use Rattle.ev_listeners.specs.Origins.{those_with}
use Rattle.ev_listeners.proofs.Began.{first_with, none_found}
use Rattle.ev_listeners.proofs.listeners.Listeners.with_chain.Goals as goal

pub returns-in_default : goal.returns-in_default
returns-in_default c = none_found c.args.self.now ∙ ap (λ o. find (shows_chain o) c.args.self.now) (sym c.in_default.is)

pub returns-in_default-get : goal.returns-in_default-get
returns-in_default-get c =
    ap (λ g. slice_get g 0) (ap group_of c.in_default-get.ensures ∙ c.self.invariant.origins c.in-Some.origin ∙ ap (those_with c.in-Some.origin) c.self.view_is)
    ∙ first_with c.in-Some.origin c.args.self.now
    ∙ ap (λ o. find (shows_chain o) c.args.self.now) (sym c.in-Some.is)

pub returns : goal.returns
returns c =
    c.first_of.ensures
    ∙ ap (λ g. slice_get g 0)
    (c.as_slice.ensures.elements ∙ c.get-2.ensures.value ∙ ap group_of c.in-Some-get.ensures ∙ c.self.invariant.origins c.in-Some.origin ∙ ap (those_with c.in-Some.origin) c.self.view_is)
    ∙ first_with c.in-Some.origin c.args.self.now
    ∙ ap (λ o. find (shows_chain o) c.args.self.now) (sym c.in-Some.is)
