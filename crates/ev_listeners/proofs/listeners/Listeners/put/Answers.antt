use Rattle.std.proofs.Common.{◌≡◌, ◌∙◌, IfOk, ap, subst}
use Rattle.ev_model.specs.declared.pictures.ServedListener.{ServedListener}
use Rattle.ev_layers.specs.Rows.{named, numbered, put_before, without_name, without_number}
use Rattle.ev_layers.proofs.Steps.{no_name_left, no_number_left, put_both}
use Rattle.ev_listeners.proofs.listeners.Listeners.put.Goals as goal

pub with-requires-clause-name : goal.with-requires-clause-name
with-requires-clause-name c =
    ap (λ xs. named (λ (l : ServedListener). l.name) xs c.args.listener.name)
    (c.in_ok-listeners-2.ensures
    ∙ (λ i. without_name (λ (l : ServedListener). l.name) ((c.name.ensures ∙ ap (λ (l : ServedListener). l.name) c.get-2.ensures.value) i)
    ((c.in_ok-listeners.ensures ∙ (λ j. without_number (λ (l : ServedListener). l.number) ((c.number.ensures ∙ ap (λ (l : ServedListener). l.number) c.get.ensures.value) j) c.args.self)) i)))
    ∙ no_name_left (λ (l : ServedListener). l.number) (λ (l : ServedListener). l.name) (without_number (λ (l : ServedListener). l.number) c.args.listener.number c.args.self) c.args.listener.name

pub with-requires-clause-number : goal.with-requires-clause-number
with-requires-clause-number c =
    ap (λ xs. numbered (λ (l : ServedListener). l.number) xs c.args.listener.number)
    (c.in_ok-listeners-2.ensures
    ∙ (λ i. without_name (λ (l : ServedListener). l.name) ((c.name.ensures ∙ ap (λ (l : ServedListener). l.name) c.get-2.ensures.value) i)
    ((c.in_ok-listeners.ensures ∙ (λ j. without_number (λ (l : ServedListener). l.number) ((c.number.ensures ∙ ap (λ (l : ServedListener). l.number) c.get.ensures.value) j) c.args.self)) i)))
    ∙ no_number_left (λ (l : ServedListener). l.number) (λ (l : ServedListener). l.name) c.args.self c.args.listener.name c.args.listener.number

pub returns : goal.returns
returns c =
    subst (λ ys. IfOk c.with.result (λ rows. rows ≡ ys))
    (ap (put_before (λ (l : ServedListener). l.name) c.args.listener)
    (c.in_ok-listeners-2.ensures
    ∙ (λ i. without_name (λ (l : ServedListener). l.name) ((c.name.ensures ∙ ap (λ (l : ServedListener). l.name) c.get-2.ensures.value) i)
    ((c.in_ok-listeners.ensures ∙ (λ j. without_number (λ (l : ServedListener). l.number) ((c.number.ensures ∙ ap (λ (l : ServedListener). l.number) c.get.ensures.value) j) c.args.self)) i)))
    ∙ put_both (λ (l : ServedListener). l.number) (λ (l : ServedListener). l.name) c.args.listener c.args.self)
    c.with.ensures
