use Rattle.std.proofs.Common.{◌∙◌, sym, subst}
use Rattle.ev_types.specs.declared.rows.Arrival.TheVariants.{Value}
use Rattle.ev_indexes.specs.Worlds.{HasRows}
use Rattle.ev_warming.specs.Arrivals.{with_arrived}
use Rattle.ev_warming.proofs.IndexLemmas.{on_ok}
use Rattle.ev_warming.proofs.ItemLemmas.{kept-stands}
use Rattle.ev_warming.proofs.manager.Manager.keep_value.Goals as goal

pub returns-clause-stands : goal.returns-clause-stands
returns-clause-stands g c =
    let t = c.arrive_value.new.self.state in
    let kind = c.args.kind in
    on_ok c.arrive_value.result c.arrive_value.ensures.stands (λ follows world stands.
    kept-stands t world kind c.args.item.now c.in-Good.content ((λ i. (sym c.item.view_is i).body) ∙ c.in-Good.is)
    (subst (HasRows t) (λ i. with_arrived kind (Value c.in-Good.content) (c.in_ok-name.ensures i) world) (follows world stands)))
