use Rattle.std.proofs.Common.{◌∙◌, ap}
use Rattle.ev_tree.specs.Forms.{inside}
use Rattle.ev_tree.specs.Broken.{either_broken}
use Rattle.ev_route_json.specs.Conditions.{match_in, match_broken_in}
use Rattle.ev_route_json.specs.Routes.{route_of, match_of, route_broken}
use Rattle.ev_route_json.proofs.routes.inspect_route.Goals as goal

pub returns-clause-value : goal.returns-clause-value
unfolding route_of match_of
returns-clause-value c =
    let matched = c.inner.ensures ∙ ap inside c.in_ok-matched.ensures.value in
    λ i. record { route_match = (c.in_ok-path.ensures.value ∙ ap (match_in c.args.profile) matched) i; action = c.in_ok-action.ensures.value i }

pub returns-clause-broken : goal.returns-clause-broken
unfolding match_of route_broken
returns-clause-broken c =
    let matched = c.inner.ensures ∙ ap inside c.in_ok-matched.ensures.value in
    let path = c.in_ok-path.ensures.broken ∙ ap (match_broken_in c.args.profile) matched in
    let action = c.in_ok-action.ensures.broken in
    c.or-2.ensures ∙ (λ i. either_broken (path i) ((c.or.ensures ∙ (λ j. either_broken (action j) (record (c.none.ensures j) {
      v6 = (c.is_wrong.ensures ∙ c.in_ok-matched.ensures.wrong) j;
    }))) i))
