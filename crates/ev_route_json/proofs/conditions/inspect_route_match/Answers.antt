use Rattle.std.proofs.Common.{◌∙◌}
use Rattle.ev_tree.specs.Broken.{either_broken}
use Rattle.ev_route_json.specs.Conditions.{route_match_of, route_match_broken}
use Rattle.ev_route_json.proofs.conditions.inspect_route_match.Goals as goal

pub returns-clause-value : goal.returns-clause-value
unfolding route_match_of
returns-clause-value c = λ i. record {
  path = c.in_ok-path.ensures.value i;
  conditions = (c.from_vec.ensures.elements ∙ c.in_ok-conditions.ensures.value) i;
}

pub returns-clause-broken : goal.returns-clause-broken
unfolding route_match_broken
returns-clause-broken c = c.or.ensures ∙ (λ i. either_broken (c.in_ok-path.ensures.broken i) (c.in_ok-conditions.ensures.broken i))
