use Rattle.std.proofs.Common.{◌∙◌, ap, cond, nat_eq, Some}
use Rattle.std.specs.Str.{bytes_eq}
use Rattle.ev_layers.specs.Layers.{found}
use Rattle.ev_layers.proofs.rows.enter.Goals as goal

pub returns-clause-name : goal.returns-clause-name
returns-clause-name g c m =
    c.in_ok-set.ensures m
    ∙ (λ i. cond (bytes_eq ((c.new-name.ensures ∙ ap g.T.Row.name_of c.in_ok-share.ensures.value) i) m) (Some (c.in_ok-share-2.ensures.value i)) (found bytes_eq c.args.by_name.now m))

pub returns-clause-number : goal.returns-clause-number
returns-clause-number g c m =
    c.in_ok-set-2.ensures m
    ∙ (λ i. cond (nat_eq ((c.number-number.ensures ∙ ap g.T.Row.number_of c.get.ensures.value) i) m) (Some c.args.row) (found nat_eq c.args.by_number.now m))
