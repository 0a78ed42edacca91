use Rattle.std.proofs.Common.{◌≡◌, ◌∙◌, IfOk, ap, subst}
use Rattle.ev_layers.specs.Rows.{named, numbered, put_before, without_name, without_number}
use Rattle.ev_layers.proofs.Steps.{no_name_left, no_number_left, put_both}
use Rattle.ev_layers.proofs.rows.Rows.put.Goals as goal

pub with-requires-clause-name : goal.with-requires-clause-name
with-requires-clause-name g c =
    ap (λ xs. named g.T.Row.name_of xs (g.T.Row.name_of c.args.row))
    (c.in_ok-rows-2.ensures
    ∙ (λ i. without_name g.T.Row.name_of ((c.name.ensures ∙ ap g.T.Row.name_of c.get-2.ensures.value) i)
    ((c.in_ok-rows.ensures ∙ (λ j. without_number g.T.Row.number_of ((c.number.ensures ∙ ap g.T.Row.number_of c.get.ensures.value) j) c.args.self)) i)))
    ∙ no_name_left g.T.Row.number_of g.T.Row.name_of (without_number g.T.Row.number_of (g.T.Row.number_of c.args.row) c.args.self) (g.T.Row.name_of c.args.row)

pub with-requires-clause-number : goal.with-requires-clause-number
with-requires-clause-number g c =
    ap (λ xs. numbered g.T.Row.number_of xs (g.T.Row.number_of c.args.row))
    (c.in_ok-rows-2.ensures
    ∙ (λ i. without_name g.T.Row.name_of ((c.name.ensures ∙ ap g.T.Row.name_of c.get-2.ensures.value) i)
    ((c.in_ok-rows.ensures ∙ (λ j. without_number g.T.Row.number_of ((c.number.ensures ∙ ap g.T.Row.number_of c.get.ensures.value) j) c.args.self)) i)))
    ∙ no_number_left g.T.Row.number_of g.T.Row.name_of c.args.self (g.T.Row.name_of c.args.row) (g.T.Row.number_of c.args.row)

pub returns : goal.returns
returns g c =
    subst (λ ys. IfOk c.with.result (λ rows. rows ≡ ys))
    (ap (put_before g.T.Row.name_of c.args.row)
    (c.in_ok-rows-2.ensures
    ∙ (λ i. without_name g.T.Row.name_of ((c.name.ensures ∙ ap g.T.Row.name_of c.get-2.ensures.value) i)
    ((c.in_ok-rows.ensures ∙ (λ j. without_number g.T.Row.number_of ((c.number.ensures ∙ ap g.T.Row.number_of c.get.ensures.value) j) c.args.self)) i)))
    ∙ put_both g.T.Row.number_of g.T.Row.name_of c.args.row c.args.self)
    c.with.ensures.rows
