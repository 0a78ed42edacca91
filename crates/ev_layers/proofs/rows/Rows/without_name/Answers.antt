use Rattle.std.proofs.Common.{◌≡◌, ◌∙◌, IfOk, sym, subst}
use Rattle.ev_layers.specs.Rows.{without_number}
use Rattle.ev_layers.proofs.Steps.{name_absent, name_out}
use Rattle.ev_layers.proofs.rows.Rows.without_name.Goals as goal

pub returns-in_default : goal.returns-in_default
returns-in_default g c = name_absent g.T.Row.number_of g.T.Row.name_of c.args.self c.args.name.now (sym c.in_default.ensures.row)

pub returns : goal.returns
returns g c =
    subst (λ ys. IfOk c.without.result (λ rows. rows ≡ ys))
    ((λ i. without_number g.T.Row.number_of (c.number-number.ensures i) c.args.self)
    ∙ name_out g.T.Row.number_of g.T.Row.name_of c.args.self c.args.name.now c.in-Some.row.now c.in-Some.ensures.order (sym c.in-Some.ensures.row))
    c.without.ensures
