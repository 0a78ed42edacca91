use Rattle.std.proofs.Common.{subst}
use Rattle.ev_types.specs.declared.rows.Arrival.TheVariants.{Value}
use Rattle.ev_indexes.specs.Worlds.{HasRows}
use Rattle.ev_warming.specs.Arrivals.{with_arrived}
use Rattle.ev_warming.proofs.IndexLemmas.{on_ok}
use Rattle.ev_warming.proofs.manager.Manager.arrive_value.Goals as goal

pub returns-clause-stands : goal.returns-clause-stands
returns-clause-stands g c =
    on_ok c.arrive.result c.arrive.ensures.stands (λ follows world stands.
    subst (HasRows c.arrive.new.self.state) (λ i. with_arrived c.args.kind (Value (c.in_ok-copy.ensures.equal i)) c.args.name.now world) (follows world stands))
