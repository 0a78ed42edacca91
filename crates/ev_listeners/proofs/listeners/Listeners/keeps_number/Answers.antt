use Rattle.std.proofs.Common.{◌∙◌}
use Rattle.ev_model.specs.Picture.{served_listener_same}
use Rattle.ev_model.specs.declared.pictures.ServedListener.{ServedListener}
use Rattle.ev_layers.specs.Kept.{keeps_number}
use Rattle.ev_listeners.proofs.listeners.Listeners.keeps_number.Goals as goal

pub returns : goal.returns
returns c =
    c.keeps_number.ensures
    ∙ (λ i. keeps_number (λ (l : ServedListener). l.number) (λ (l : ServedListener). l.name) served_listener_same (c.self.view_is i) (c.after.view_is i) c.args.number)
