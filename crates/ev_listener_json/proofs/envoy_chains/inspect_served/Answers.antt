use Rattle.std.proofs.Common.{◌∙◌, ap, map}
use Rattle.ev_types.specs.declared.events.Profile.TheVariants.{Envoy}
use Rattle.ev_tree.specs.Forms.{listed}
use Rattle.ev_tree.specs.Broken.{either_broken, any_broken}
use Rattle.ev_tree.specs.Counts.{more_than_one}
use Rattle.ev_listener_json.specs.Parts.{first_of}
use Rattle.ev_listener_json.specs.Filters.{filters_of, filter_serves, filter_serve, filter_broken}
use Rattle.ev_listener_json.specs.Chains.{serve_or_other, served_by, filters_broken}
use Rattle.ev_listener_json.proofs.envoy_chains.inspect_served.Goals as goal

pub returns-clause-value : goal.returns-clause-value
unfolding filters_of served_by
returns-clause-value c =
    let filters = c.elements.ensures ∙ ap listed c.in_ok-filters.ensures.value in
    c.serve_or_other.ensures ∙ ap serve_or_other (c.in_ok-below.ensures.serve ∙ ap (λ ts. first_of (map (filter_serve Envoy) ts)) filters)

pub returns-clause-broken : goal.returns-clause-broken
unfolding filters_of filters_broken
returns-clause-broken c =
    let filters = c.elements.ensures ∙ ap listed c.in_ok-filters.ensures.value in
    let below = c.in_ok-below.ensures.broken ∙ ap (any_broken (filter_broken Envoy)) filters in
    let serving = c.as_slice.ensures.value ∙ c.in_ok-below.ensures.serving ∙ ap (map (filter_serves Envoy)) filters in
    c.or.ensures ∙ (λ i. either_broken (below i) (record (c.none.ensures i) {
      v6 = (c.is_wrong.ensures ∙ c.in_ok-filters.ensures.wrong) i;
      v17 = (c.more_than_one.ensures ∙ ap more_than_one serving) i;
    }))
