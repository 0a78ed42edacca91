use Rattle.std.proofs.Common.{◌∙◌, ap, sym, map}
use Rattle.ev_tree.specs.Forms.{is_wrong, given_or, listed}
use Rattle.ev_tree.specs.Broken.{either_broken, any_broken}
use Rattle.ev_tree.proofs.Elements.{list_all-view}
use Rattle.ev_tree.proofs.Outcomes.{or_same, not_same}
use Rattle.ev_listener_json.specs.CidrRanges.{cidr_range_of, cidr_range_broken}
use Rattle.ev_listener_json.specs.SourceCriteria.{is_source_port, are_source_ports, source_port_in, source_type_numbered, direct_range_trees, source_range_trees, source_port_trees, sources_of, sources_broken}
use Rattle.ev_listener_json.proofs.source_criteria.inspect_sources.Goals as goal

pub returns-clause-value : goal.returns-clause-value
unfolding direct_range_trees source_range_trees source_port_trees sources_of
returns-clause-value c =
    let direct = c.elements.ensures ∙ ap listed c.in_ok-direct.ensures.value in
    let ranges = c.elements-2.ensures ∙ ap listed c.in_ok-ranges.ensures.value in
    let ports = c.elements-4.ensures ∙ ap listed c.in_ok-ports.ensures.value in
    λ i. record {
      direct_ranges = (c.from_vec.ensures.elements ∙ c.in_ok-direct_below.ensures.values ∙ ap (map cidr_range_of) direct) i;
      source_type = (c.source_type_numbered.ensures ∙ ap source_type_numbered (c.given_or.ensures ∙ ap (given_or 0) c.in_ok-kind.ensures)) i;
      ranges = (c.from_vec-2.ensures.elements ∙ c.in_ok-below.ensures.values ∙ ap (map cidr_range_of) ranges) i;
      ports = (c.from_vec-3.ensures.elements ∙ c.in_ok-copy_ports.ensures ∙ ap (map source_port_in) ports) i;
    }

pub returns-clause-broken : goal.returns-clause-broken
unfolding direct_range_trees source_range_trees source_port_trees sources_broken
returns-clause-broken c =
    let direct = c.in_ok-direct_below.ensures.broken ∙ ap (any_broken cidr_range_broken) (c.elements.ensures ∙ ap listed c.in_ok-direct.ensures.value) in
    let ranges = c.in_ok-below.ensures.broken ∙ ap (any_broken cidr_range_broken) (c.elements-2.ensures ∙ ap listed c.in_ok-ranges.ensures.value) in
    c.or-2.ensures ∙ (λ i. either_broken (direct i) ((c.or.ensures ∙ (λ j. either_broken (ranges j) (record (c.none.ensures j) {
      v6 = or_same (or_same (or_same (or_same
          (c.is_wrong.ensures ∙ c.in_ok-direct.ensures.wrong)
          (c.is_wrong-2.ensures ∙ c.in_ok-ranges.ensures.wrong))
          (c.is_wrong-3.ensures ∙ c.in_ok-ports.ensures.wrong))
          (not_same (c.are_source_ports.ensures ∙ sym (list_all-view is_source_port c.elements-3.result.now) ∙ ap are_source_ports (c.elements-3.ensures ∙ ap listed c.in_ok-ports.ensures.value))))
          (c.is_wrong-4.ensures ∙ ap is_wrong c.in_ok-kind.ensures) j;
    }))) i))
