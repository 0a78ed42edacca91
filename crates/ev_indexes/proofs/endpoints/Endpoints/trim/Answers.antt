use Rattle.std.proofs.Common.{◌∙◌, ◌&&◌, not, nat_eq, None, cond}
use Rattle.ev_types.specs.SameHosts.{has_host}
use Rattle.std.specs.Map.{lookup}
use Rattle.ev_indexes.specs.KeptEndpoints.{marked_in}
use Rattle.ev_indexes.specs.Results.{result_among}
use Rattle.ev_indexes.proofs.MarkLemmas.{marked-changed, rows-changed}
use Rattle.ev_indexes.proofs.endpoints.Endpoints.trim.Goals as goal

pub invariant_of-self-2 : goal.invariant_of-self-2
invariant_of-self-2 c =
    marked-changed c.self.inside.results c.trim.new.self c.self.inside.marked.entries c.swap_remove.new.self.entries c.args.number None
    (λ q. c.swap_remove.ensures.updates.0 q ∙ (λ i. cond (nat_eq (c.number.ensures.number i) q) None (lookup (nat_eq q) c.self.inside.marked.entries)))
    (λ n h e. c.in_ok-trim.ensures.ok n h ∙ (λ i. cond (e i && not (has_host h c.args.rows.now)) None (result_among c.self.inside.results n h))) tt c.self.invariant

pub returns-clause-marked : goal.returns-clause-marked
returns-clause-marked c = λ n.
    rows-changed c.self.inside.marked.entries c.swap_remove.new.self.entries c.number.result None (λ q. c.swap_remove.ensures.updates.0 q) n
    ∙ (λ i. cond (nat_eq (c.number.ensures.number i) n) None (marked_in (c.self.view_is i) n))
