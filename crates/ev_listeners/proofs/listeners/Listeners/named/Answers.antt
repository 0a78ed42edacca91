use Rattle.std.proofs.Common.{subst}
use Rattle.ev_model.specs.declared.pictures.ServedListener.{ServedListener}
use Rattle.ev_layers.specs.Rows.{IsInOrder}
use Rattle.ev_listeners.proofs.listeners.Listeners.named.Goals as goal

pub returns-clause-order : goal.returns-clause-order
returns-clause-order c = subst (IsInOrder (λ (l : ServedListener). l.number) (λ (l : ServedListener). l.name)) c.self.view_is c.named.ensures.order
