use Rattle.std.proofs.Common.{◌∙◌, ap, ◌∷◌, [], map, codes}
use Rattle.std.specs.List.{list_any}
use Rattle.ev_tree.specs.Forms.{is_wrong, given_or, inside, listed, objects_of}
use Rattle.ev_tree.proofs.Outcomes.{or_same, and_same, not_same}
use Rattle.ev_tree.specs.Broken.{either_broken, any_broken}
use Rattle.ev_tree.specs.Counts.{exactly_one}
use Rattle.ev_route_json.specs.Targets.{entry_of, envoy_entry_broken, entries_of, is_by_header, is_target_elsewhere, target_of, target_with, envoy_target_of, envoy_target_with, envoy_target_broken, is_empty_text, has_weight}
use Rattle.ev_route_json.proofs.targets.inspect_envoy_target.Goals as goal

pub returns-clause-value : goal.returns-clause-value
unfolding entries_of target_of is_target_elsewhere envoy_target_of
returns-clause-value c =
    let inner = c.inner.ensures ∙ ap inside c.in_ok-weighted.ensures.value in
    let entries = c.elements-elements.ensures ∙ ap listed (c.in_ok-entries.ensures.value ∙ ap (objects_of (codes "clusters")) inner) in
    let clusters = c.in_ok-clusters.ensures.values ∙ ap (map entry_of) entries in
    let text = c.text_or_empty.ensures ∙ ap (given_or []) c.in_ok-cluster.ensures.value in
    let target = c.in_ok-target.ensures ∙ (λ j. target_with (clusters j) (text j)) in
    let elsewhere = or_same (or_same (or_same
    (c.is_given-header_given.ensures ∙ c.in_ok-header.ensures.given)
    (c.is_given-plugin_given.ensures ∙ c.in_ok-plugin.ensures.given))
    (c.is_given-inline_given.ensures ∙ c.in_ok-inline.ensures.given))
    (c.in_ok-by_header.ensures ∙ ap (list_any is_by_header) entries) in
    c.envoy_target_with.ensures ∙ (λ i. envoy_target_with (elsewhere i) (target i))

pub returns-clause-broken : goal.returns-clause-broken
unfolding entries_of envoy_target_broken
returns-clause-broken c =
    let inner = c.inner.ensures ∙ ap inside c.in_ok-weighted.ensures.value in
    let entries = c.elements-elements.ensures ∙ ap listed (c.in_ok-entries.ensures.value ∙ ap (objects_of (codes "clusters")) inner) in
    let clusters = c.in_ok-clusters.ensures.values ∙ ap (map entry_of) entries in
    let below = c.in_ok-clusters.ensures.broken ∙ ap (any_broken envoy_entry_broken) entries in
    c.or.ensures ∙ (λ i. either_broken (below i) (record (c.none.ensures i) {
      v6 = or_same (or_same (or_same (or_same (or_same
          (c.is_wrong.ensures ∙ c.in_ok-cluster.ensures.wrong)
          (c.is_wrong-2.ensures ∙ c.in_ok-weighted.ensures.wrong))
          (c.is_wrong-3.ensures ∙ c.in_ok-entries.ensures.wrong ∙ ap (λ t. is_wrong (objects_of (codes "clusters") t)) inner))
          (c.is_wrong-4.ensures ∙ c.in_ok-header.ensures.wrong))
          (c.is_wrong-5.ensures ∙ c.in_ok-plugin.ensures.wrong))
          (c.is_wrong-6.ensures ∙ c.in_ok-inline.ensures.wrong) i;
      v22 = not_same (c.exactly_one.ensures ∙ (λ j. exactly_one (
          (c.is_given.ensures ∙ c.in_ok-cluster.ensures.given) j
          ∷ (c.is_given-weights_given.ensures ∙ c.in_ok-weighted.ensures.given) j
          ∷ (c.is_given-header_given.ensures ∙ c.in_ok-header.ensures.given) j
          ∷ (c.is_given-plugin_given.ensures ∙ c.in_ok-plugin.ensures.given) j
          ∷ (c.is_given-inline_given.ensures ∙ c.in_ok-inline.ensures.given) j
          ∷ []))) i;
      v23 = (c.is_empty_text.ensures ∙ ap is_empty_text c.in_ok-cluster.ensures.value) i;
      v24 = and_same
          (c.is_given-weights_given.ensures ∙ c.in_ok-weighted.ensures.given)
          (not_same (c.has_weight.ensures ∙ ap has_weight (c.as_slice.ensures.value ∙ clusters))) i;
    }))
