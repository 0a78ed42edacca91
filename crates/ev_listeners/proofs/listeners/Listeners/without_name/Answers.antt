use Rattle.std.proofs.Common.{◌≡◌, ◌∙◌, IfOk, sym, subst}
use Rattle.ev_model.specs.declared.pictures.ServedListener.{ServedListener}
use Rattle.ev_layers.specs.Rows.{without_name, without_number}
use Rattle.ev_layers.proofs.Steps.{name_absent, name_out}
use Rattle.ev_listeners.proofs.listeners.Listeners.without_name.Goals as goal

pub returns-in_default : goal.returns-in_default
returns-in_default c =
    subst (λ ls. ls ≡ without_name (λ (l : ServedListener). l.name) c.args.name.now ls) c.self.view_is
    (name_absent (λ (l : ServedListener). l.number) (λ (l : ServedListener). l.name) c.self.inside.rows c.args.name.now (sym c.in_default.ensures.row))

pub returns : goal.returns
returns c =
    subst (λ ys. IfOk c.without.result (λ listeners. listeners ≡ ys))
    ((λ i. without_number (λ (l : ServedListener). l.number) (c.number-number.ensures i) c.args.self)
    ∙ subst (λ ls. without_number (λ (l : ServedListener). l.number) c.in-Some.listener.now.number ls ≡ without_name (λ (l : ServedListener). l.name) c.args.name.now ls) c.self.view_is
    (name_out (λ (l : ServedListener). l.number) (λ (l : ServedListener). l.name) c.self.inside.rows c.args.name.now c.in-Some.listener.now c.in-Some.ensures.order (sym c.in-Some.ensures.row)))
    c.without.ensures
