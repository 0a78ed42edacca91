use Rattle.std.proofs.Common.{◌∙◌, ◌||◌, None, Some, sym, ap}
use Rattle.std.specs.Prelude.{nat_le}
use Rattle.std.specs.List.{list_any}
use Rattle.ev_lookups.specs.Keys.{named}
use Rattle.ev_indexes.proofs.MovedLemmas.{held-found}
use Rattle.ev_indexes.proofs.state.State.is_held.Goals as goal

pub returns-then-has_up_to : goal.returns-then-has_up_to
returns-then-has_up_to c =
    let watch = c.in-Some.watch.now in
    c.if-has_up_to.true
    ∙ sym (ap (λ b. b || list_any (λ n. nat_le n c.args.made) watch.limited) (sym c.has_up_to.ensures ∙ c.if-has_up_to.true))
    ∙ held-found c.args.self.now c.requires.indexed c.args.made (named c.args.kind c.args.name.now) (Some watch) (sym c.in-Some.ensures)

pub returns-else-has_up_to : goal.returns-else-has_up_to
returns-else-has_up_to c =
    let watch = c.in-Some.watch.now in
    c.has_up_to-else-has_up_to.ensures
    ∙ sym (ap (λ b. b || list_any (λ n. nat_le n c.args.made) watch.limited) (sym c.has_up_to.ensures ∙ c.if-has_up_to.false))
    ∙ held-found c.args.self.now c.requires.indexed c.args.made (named c.args.kind c.args.name.now) (Some watch) (sym c.in-Some.ensures)

pub returns-in-None : goal.returns-in-None
returns-in-None c = held-found c.args.self.now c.requires.indexed c.args.made (named c.args.kind c.args.name.now) None (sym c.in-None.ensures)
