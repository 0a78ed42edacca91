use Rattle.std.proofs.Common.{◌≡◌, ◌∙◌, Some, sym, ap, subst}
use Rattle.ev_model.specs.declared.pictures.ServedListener.{ServedListener}
use Rattle.ev_layers.specs.Rows.{IsInOrder, numbered, without_number}
use Rattle.ev_layers.proofs.Steps.{number_absent}
use Rattle.ev_listeners.proofs.listeners.Listeners.without.Goals as goal

pub returns-in-None : goal.returns-in-None
returns-in-None c =
    subst (λ ls. ls ≡ without_number (λ (l : ServedListener). l.number) c.args.number ls) c.self.view_is
    (number_absent (λ (l : ServedListener). l.number) (λ (l : ServedListener). l.name) c.self.inside.rows c.args.number (sym c.in-None.ensures.row))

pub without_listener-requires-clause-order : goal.without_listener-requires-clause-order
without_listener-requires-clause-order c =
    subst (λ ls. IsInOrder (λ (l : ServedListener). l.number) (λ (l : ServedListener). l.name) ls) c.self.view_is c.in-Some.ensures.order

pub without_listener-requires-clause-row : goal.without_listener-requires-clause-row
without_listener-requires-clause-row c =
    ap (λ l. Some l) c.in_ok-listener-in-Some.ensures.value ∙ c.in-Some.ensures.row ∙ ap (λ ls. numbered (λ (l : ServedListener). l.number) ls c.args.number) c.self.view_is
