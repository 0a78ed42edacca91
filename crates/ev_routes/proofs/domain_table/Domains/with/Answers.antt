use Rattle.ev_routes.proofs.Patterns.{listed_more}
use Rattle.ev_routes.proofs.domain_table.Domains.with.Goals as goal

pub invariant_of-result : goal.invariant_of-result
invariant_of-result c =
    let entered = c.in_ok-enter_domain.ensures in
    listed_more _ _ _ _ _ _ _ _ _ c.in_ok-push.ensures.ok c.self.invariant entered.text entered.suffixes.0 entered.suffixes.1 entered.prefixes.0 entered.prefixes.1
