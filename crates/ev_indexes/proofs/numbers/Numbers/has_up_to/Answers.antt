use Rattle.std.proofs.Common.{◌∙◌, nat_le, drop, sym, ap}
use Rattle.std.specs.List.{list_any}
use Rattle.ev_indexes.specs.Numbers.{is_first_up_to}
use Rattle.ev_indexes.proofs.NumberLemmas.{first-decides}
use Rattle.ev_indexes.proofs.numbers.Numbers.has_up_to.Goals as goal

pub returns-then-self : goal.returns-then-self
returns-then-self c =
    c.is_first_up_to.ensures
    ∙ ap (is_first_up_to c.args.made) (c.as_slice-numbers.ensures.elements ∙ sym c.self.view_is)
    ∙ first-decides c.args.made (drop c.self.inside.gone c.self.inside.numbers.items) (c.self.invariant.rising c.if-self.true)
    ∙ ap (list_any (λ n. nat_le n c.args.made)) c.self.view_is
