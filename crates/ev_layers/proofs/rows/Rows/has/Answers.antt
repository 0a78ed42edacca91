use Rattle.std.proofs.Common.{sym, ap, ◌∙◌}
use Rattle.std.specs.Option.{is_some, option_copied}
use Rattle.ev_layers.proofs.Numbered.{found_number}
use Rattle.ev_layers.proofs.rows.Rows.has.Goals as goal

pub returns-in-Some : goal.returns-in-Some
returns-in-Some g c =
    ap (λ o. is_some (option_copied o)) (sym c.in-Some.is) ∙ ap is_some c.numbered.ensures.row ∙ found_number g.T.Row.number_of c.args.number c.args.self.now

pub returns-in-None : goal.returns-in-None
returns-in-None g c =
    ap (λ o. is_some (option_copied o)) (sym c.in-None.is) ∙ ap is_some c.numbered.ensures.row ∙ found_number g.T.Row.number_of c.args.number c.args.self.now
