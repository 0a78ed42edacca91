use Rattle.std.proofs.Common.{◌≡◌, ◌∙◌, ap, ◌∷◌, [], codes}
use Rattle.serde_json.specs.Data.{Data}
use Rattle.serde_json.specs.View.{view}
use Rattle.ev_types.specs.declared.events.Profile.{Profile}
use Rattle.ev_types.specs.declared.events.Profile.TheVariants.{Own, Envoy}
use Rattle.ev_tree.specs.Forms.{is_wrong, is_given, given_or, inside, number_of, object_of}
use Rattle.ev_route_json.specs.Given.{actions_are_bad_by}
use Rattle.ev_route_json.specs.declared.routes.GivenActions.{GivenActions}
use Rattle.ev_tree.specs.Broken.{either_broken, broken_where}
use Rattle.ev_tree.proofs.Outcomes.{or_same, and_same, not_same}
use Rattle.ev_tree.specs.Counts.{exactly_one}
use Rattle.ev_route_json.specs.Targets.{target_in, target_broken_in}
use Rattle.ev_route_json.specs.Routes.{action_of, action_with, action_broken, actions_are_bad, forward_of, status_of, is_status}
use Rattle.ev_route_json.proofs.routes.inspect_action.Goals as goal

bad_same : (profile : Profile) (given : GivenActions) (route : Data)
    → given.forward ≡ is_given (object_of (codes "route") route) → given.redirect ≡ is_given (object_of (codes "redirect") route) → given.direct ≡ is_given (object_of (codes "direct_response") route)
    → given.filter ≡ is_given (object_of (codes "filter_action") route) → given.stay ≡ is_given (object_of (codes "non_forwarding_action") route)
    → actions_are_bad_by profile given ≡ actions_are_bad profile route
bad_same Own given route forward redirect direct filter stay = or_same (not_same (λ i. exactly_one (forward i ∷ redirect i ∷ direct i ∷ []))) (or_same filter stay)
bad_same Envoy given route forward redirect direct filter stay = not_same (λ i. exactly_one (forward i ∷ redirect i ∷ direct i ∷ filter i ∷ stay i ∷ []))

pub returns-clause-value : goal.returns-clause-value
unfolding action_of forward_of status_of
returns-clause-value c =
    let forward = c.inner-2.ensures ∙ ap inside c.in_ok-forward.ensures.value in
    let direct = c.inner.ensures ∙ ap inside c.in_ok-direct.ensures.value in
    let status = c.given_or-status.ensures ∙ ap (given_or 0) (c.in_ok-given_status.ensures ∙ ap (number_of (codes "status")) direct) in
    let target = c.in_ok-target.ensures.value ∙ ap (target_in c.args.profile) forward in
    let forwards = c.is_given.ensures ∙ c.in_ok-forward.ensures.given in
    let responds = c.is_given-3.ensures ∙ c.in_ok-direct.ensures.given in
    let by_filter = or_same (c.is_given-4.ensures ∙ c.in_ok-filter.ensures.given) (c.is_given-5.ensures ∙ c.in_ok-stay.ensures.given) in
    c.make_action.ensures ∙ (λ i. action_with (forwards i) (responds i) (by_filter i) (target i) (status i))

pub returns-clause-broken : goal.returns-clause-broken
unfolding action_broken forward_of status_of
returns-clause-broken c =
    let forward = c.inner-2.ensures ∙ ap inside c.in_ok-forward.ensures.value in
    let direct = c.inner.ensures ∙ ap inside c.in_ok-direct.ensures.value in
    let status = c.given_or-status.ensures ∙ ap (given_or 0) (c.in_ok-given_status.ensures ∙ ap (number_of (codes "status")) direct) in
    let forwards = c.is_given.ensures ∙ c.in_ok-forward.ensures.given in
    let target = c.only_if.ensures ∙ (λ i. broken_where (forwards i) ((c.in_ok-target.ensures.broken ∙ ap (target_broken_in c.args.profile) forward) i)) in
    c.or.ensures ∙ (λ i. either_broken (target i) (record (c.none.ensures i) {
      v6 = or_same (or_same (or_same (or_same (or_same
          (c.is_wrong.ensures ∙ c.in_ok-forward.ensures.wrong)
          (c.is_wrong-2.ensures ∙ c.in_ok-redirect.ensures.wrong))
          (c.is_wrong-3.ensures ∙ c.in_ok-direct.ensures.wrong))
          (c.is_wrong-4.ensures ∙ c.in_ok-filter.ensures.wrong))
          (c.is_wrong-5.ensures ∙ c.in_ok-stay.ensures.wrong))
          (c.is_wrong-6.ensures ∙ ap is_wrong (c.in_ok-given_status.ensures ∙ ap (number_of (codes "status")) direct)) i;
      v22 = or_same
          (c.are_bad.ensures ∙ bad_same c.args.profile _ (view c.args.route.now)
          (c.is_given.ensures ∙ c.in_ok-forward.ensures.given) (c.is_given-2.ensures ∙ c.in_ok-redirect.ensures.given) (c.is_given-3.ensures ∙ c.in_ok-direct.ensures.given)
          (c.is_given-4.ensures ∙ c.in_ok-filter.ensures.given) (c.is_given-5.ensures ∙ c.in_ok-stay.ensures.given))
          (and_same (c.is_given-3.ensures ∙ c.in_ok-direct.ensures.given) (not_same (c.is_status.ensures ∙ ap is_status status))) i;
    }))
