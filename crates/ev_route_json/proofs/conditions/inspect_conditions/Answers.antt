use Rattle.std.proofs.Common.{◌∙◌, ◌++◌, ap, map}
use Rattle.ev_tree.specs.Forms.{listed}
use Rattle.ev_tree.specs.Broken.{either_broken, any_broken}
use Rattle.ev_tree.proofs.Outcomes.{or_same}
use Rattle.ev_route_json.specs.declared.header_matchers.MatcherKind.TheVariants.{OfHeader, OfQuery}
use Rattle.ev_route_json.specs.Conditions.{condition_of, condition_broken, headers_of, parameters_of, conditions_with, conditions_of, matchers_broken, conditions_broken}
use Rattle.ev_route_json.proofs.conditions.inspect_conditions.Goals as goal

pub returns-clause-value : goal.returns-clause-value
unfolding conditions_of headers_of parameters_of
returns-clause-value c =
    let headers = c.in_ok-by_header.ensures.values ∙ ap (map (condition_of OfHeader)) (c.elements.ensures ∙ ap listed c.in_ok-headers.ensures.value) in
    let parameters = c.in_ok-by_query.ensures.values ∙ ap (map (condition_of OfQuery)) (c.elements-2.ensures ∙ ap listed c.in_ok-parameters.ensures.value) in
    let matched = c.in_ok-matched.ensures ∙ (λ i. headers i ++ parameters i) in
    let grpc = c.is_given.ensures ∙ c.in_ok-grpc.ensures.given in
    c.in_ok-conditions_with.ensures ∙ (λ i. conditions_with (matched i) (grpc i) (c.in_ok-undecided.ensures.given i))

pub returns-clause-broken : goal.returns-clause-broken
unfolding conditions_broken matchers_broken headers_of parameters_of
returns-clause-broken c =
    let headers = c.in_ok-by_header.ensures.broken ∙ ap (any_broken (condition_broken OfHeader)) (c.elements.ensures ∙ ap listed c.in_ok-headers.ensures.value) in
    let parameters = c.in_ok-by_query.ensures.broken ∙ ap (any_broken (condition_broken OfQuery)) (c.elements-2.ensures ∙ ap listed c.in_ok-parameters.ensures.value) in
    let matched = c.or.ensures ∙ (λ i. either_broken (headers i) (parameters i)) in
    c.or-2.ensures ∙ (λ i. either_broken (matched i) (record (c.none.ensures i) {
      v6 = or_same (or_same (or_same
          (c.is_wrong.ensures ∙ c.in_ok-headers.ensures.wrong)
          (c.is_wrong-2.ensures ∙ c.in_ok-parameters.ensures.wrong))
          (c.is_wrong-3.ensures ∙ c.in_ok-grpc.ensures.wrong))
          c.in_ok-undecided.ensures.wrong i;
    }))
