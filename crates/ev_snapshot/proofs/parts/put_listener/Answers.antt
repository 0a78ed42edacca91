use Rattle.std.proofs.Common.{◌≡◌, ◌∙◌, IfOk, ap, sym, subst}
use Rattle.ev_model.specs.declared.pictures.ServedListener.{ServedListener}
use Rattle.ev_layers.specs.Rows.{put_in}
use Rattle.ev_snapshot.specs.Changes.{put_listener}
use Rattle.ev_snapshot.proofs.parts.put_listener.Goals as goal

pub returns-in_ok-shared_listener-in-Some : goal.returns-in_ok-shared_listener-in-Some
returns-in_ok-shared_listener-in-Some c =
    subst (λ ys. IfOk c.put.result (λ new. new ≡ ys))
    (ap (λ l. put_in (λ (l : ServedListener). l.number) (λ (l : ServedListener). l.name) l c.args.listeners) c.in_ok-shared_listener-in-Some.ensures
    ∙ ap (λ s. put_listener s c.args.listeners) (sym c.in-Some.is))
    c.put.ensures
