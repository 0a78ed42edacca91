use Rattle.std.proofs.Common.{◌∙◌, ap, map}
use Rattle.ev_types.specs.declared.events.Profile.TheVariants.{Own}
use Rattle.ev_tree.specs.Forms.{inside, listed}
use Rattle.ev_tree.specs.Broken.{either_broken, any_broken}
use Rattle.ev_tree.proofs.Outcomes.{or_same, not_same}
use Rattle.ev_tree.specs.Counts.{exactly_one}
use Rattle.ev_listener_json.specs.Parts.{first_of}
use Rattle.ev_listener_json.specs.Members.{has_member}
use Rattle.ev_listener_json.specs.Filters.{filters_of, filter_serves, filter_serve, filter_broken, chain_serve, chain_broken}
use Rattle.ev_listener_json.proofs.chains.inspect_chain.Goals as goal

pub returns-clause-value : goal.returns-clause-value
unfolding filters_of chain_serve
returns-clause-value c =
    let filters = c.elements.ensures ∙ ap listed c.in_ok-filters.ensures.value in
    c.in_ok-below.ensures.serve ∙ ap (λ ts. first_of (map (filter_serve Own) ts)) filters

pub returns-clause-broken : goal.returns-clause-broken
unfolding filters_of chain_broken
returns-clause-broken c =
    let filters = c.elements.ensures ∙ ap listed c.in_ok-filters.ensures.value in
    let below = c.in_ok-below.ensures.broken ∙ ap (any_broken (filter_broken Own)) filters in
    let serving = c.as_slice.ensures.value ∙ c.in_ok-below.ensures.serving ∙ ap (map (filter_serves Own)) filters in
    c.or.ensures ∙ (λ i. either_broken (below i) (record (c.none.ensures i) {
      v6 = or_same (c.is_wrong.ensures ∙ c.in_ok-matched.ensures.wrong) (c.is_wrong-2.ensures ∙ c.in_ok-filters.ensures.wrong) i;
      v16 = (c.has_member.ensures ∙ ap has_member (c.inner.ensures ∙ ap inside c.in_ok-matched.ensures.value)) i;
      v17 = not_same (c.exactly_one.ensures ∙ ap exactly_one serving) i;
    }))
