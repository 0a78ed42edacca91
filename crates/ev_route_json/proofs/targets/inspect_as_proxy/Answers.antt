use Rattle.std.proofs.Common.{◌∙◌, ap, ◌∷◌, [], map, codes}
use Rattle.ev_tree.specs.Forms.{is_wrong, given_or, inside, listed, objects_of}
use Rattle.ev_tree.proofs.Outcomes.{or_same, and_same, not_same}
use Rattle.ev_tree.specs.Broken.{either_broken, any_broken}
use Rattle.ev_tree.specs.Counts.{exactly_one}
use Rattle.ev_route_json.specs.Targets.{entry_of, proxy_entry_broken, entries_of, target_of, target_with, proxy_target_broken, is_empty_text, has_weight}
use Rattle.ev_route_json.proofs.targets.inspect_as_proxy.Goals as goal

pub returns-clause-value : goal.returns-clause-value
unfolding entries_of target_of
returns-clause-value c =
    let inner = c.inner.ensures ∙ ap inside c.in_ok-weighted.ensures.value in
    let entries = c.elements.ensures ∙ ap listed (c.in_ok-entries.ensures.value ∙ ap (objects_of (codes "clusters")) inner) in
    let clusters = c.in_ok-clusters.ensures.values ∙ ap (map entry_of) entries in
    let text = c.text_or_empty.ensures ∙ ap (given_or []) c.in_ok-cluster.ensures.value in
    c.in_ok-value.ensures ∙ (λ i. target_with (clusters i) (text i))

pub returns-clause-broken : goal.returns-clause-broken
unfolding entries_of proxy_target_broken
returns-clause-broken c =
    let inner = c.inner.ensures ∙ ap inside c.in_ok-weighted.ensures.value in
    let entries = c.elements.ensures ∙ ap listed (c.in_ok-entries.ensures.value ∙ ap (objects_of (codes "clusters")) inner) in
    let clusters = c.in_ok-clusters.ensures.values ∙ ap (map entry_of) entries in
    let below = c.in_ok-clusters.ensures.broken ∙ ap (any_broken proxy_entry_broken) entries in
    c.or.ensures ∙ (λ i. either_broken (below i) (record (c.none.ensures i) {
      v6 = or_same (or_same
          (c.is_wrong.ensures ∙ c.in_ok-cluster.ensures.wrong)
          (c.is_wrong-2.ensures ∙ c.in_ok-weighted.ensures.wrong))
          (c.is_wrong-3.ensures ∙ c.in_ok-entries.ensures.wrong ∙ ap (λ t. is_wrong (objects_of (codes "clusters") t)) inner) i;
      v22 = not_same (c.exactly_one.ensures ∙ (λ j. exactly_one
          ((c.is_given.ensures ∙ c.in_ok-cluster.ensures.given) j ∷ (c.is_given-2.ensures ∙ c.in_ok-weighted.ensures.given) j ∷ []))) i;
      v23 = (c.is_empty_text.ensures ∙ ap is_empty_text c.in_ok-cluster.ensures.value) i;
      v24 = and_same
          (c.is_given-3.ensures ∙ c.in_ok-weighted.ensures.given)
          (not_same (c.has_weight.ensures ∙ ap has_weight (c.as_slice.ensures.value ∙ clusters))) i;
    }))
