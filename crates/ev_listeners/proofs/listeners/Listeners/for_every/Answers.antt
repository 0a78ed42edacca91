use Rattle.std.proofs.Common.{◌∙◌, filter, find, ap}
use Rattle.ev_model.specs.Choice.{listener_at, streams}
use Rattle.ev_model.specs.declared.pictures.ServedListener.{ServedListener}
use Rattle.ev_listeners.specs.Groups.{group_of, those_at}
use Rattle.ev_listeners.proofs.Grouped.{every_found}
use Rattle.ev_listeners.proofs.listeners.Listeners.for_every.Goals as goal

pub returns-in_default : goal.returns-in_default
returns-in_default c =
    ap (find (λ (l : ServedListener). l.takes_every_address))
    (ap group_of c.in_default.ensures ∙ c.self.invariant.addresses c.new.result ∙ ap (those_at c.new.result) c.self.view_is)
    ∙ every_found c.new.result c.args.self.now
    ∙ ap (listener_at (filter (λ (l : ServedListener). l.takes_every_address) (streams c.args.self.now))) c.new.ensures

pub returns : goal.returns
returns c =
    c.first_for_every.ensures
    ∙ ap (find (λ (l : ServedListener). l.takes_every_address))
    (c.as_slice.ensures.elements ∙ c.get-2.ensures.value ∙ ap group_of c.in-Some.ensures ∙ c.self.invariant.addresses c.new.result ∙ ap (those_at c.new.result) c.self.view_is)
    ∙ every_found c.new.result c.args.self.now
    ∙ ap (listener_at (filter (λ (l : ServedListener). l.takes_every_address) (streams c.args.self.now))) c.new.ensures
