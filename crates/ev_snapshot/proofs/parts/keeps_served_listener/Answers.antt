use Rattle.std.proofs.Common.{◌≡◌, ◌∙◌, ◌&&◌, true, sym, ap}
use Rattle.ev_model.specs.Picture.{served_listener_same}
use Rattle.ev_model.specs.declared.pictures.ServedListener.{ServedListener}
use Rattle.ev_layers.specs.Kept.{keeps_name, keeps_number, keeps_served}
use Rattle.ev_snapshot.proofs.parts.keeps_served_listener.Goals as goal

pub returns-then-keeps_number : goal.returns-then-keeps_number
returns-then-keeps_number c =
    let kept : keeps_number (λ (l : ServedListener). l.number) (λ (l : ServedListener). l.name) served_listener_same c.args.before.now c.args.after.now c.in-Some.listener.number ≡ true = sym c.keeps_number.ensures ∙ c.if-keeps_number.true in
    c.keeps_name.ensures
    ∙ (λ i. sym kept i && keeps_name (λ (l : ServedListener). l.name) served_listener_same c.args.before.now c.args.after.now (c.as_str.ensures.bytes i))
    ∙ ap (keeps_served (λ (l : ServedListener). l.number) (λ (l : ServedListener). l.name) served_listener_same c.args.before.now c.args.after.now) (sym c.in-Some.is)
