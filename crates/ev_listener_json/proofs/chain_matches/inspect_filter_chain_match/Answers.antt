use Rattle.std.proofs.Common.{◌∙◌, ap, [], map}
use Rattle.ev_tree.specs.Forms.{is_wrong, given_or, listed, text_in}
use Rattle.ev_tree.specs.Broken.{either_broken, any_broken}
use Rattle.ev_tree.proofs.Outcomes.{or_same}
use Rattle.ev_listener_json.specs.ServerNames.{has_no_name}
use Rattle.ev_listener_json.specs.CidrRanges.{cidr_range_of, cidr_range_broken}
use Rattle.ev_listener_json.specs.ChainMatches.{destination_in, is_no_destination, range_trees, lower_text_in, names_asked, protocols_asked, filled_text, filter_chain_match_of, filter_chain_match_broken}
use Rattle.ev_listener_json.proofs.chain_matches.inspect_filter_chain_match.Goals as goal

pub returns-clause-value : goal.returns-clause-value
unfolding range_trees names_asked protocols_asked filter_chain_match_of
returns-clause-value c =
    let ranges = c.elements.ensures ∙ ap listed c.in_ok-ranges.ensures.value in
    let texts = c.in_ok-texts.ensures in
    let names = texts.names ∙ ap (map lower_text_in) (c.elements-2.ensures ∙ ap listed c.in_ok-names.ensures.value) in
    let transport = texts.transport ∙ ap filled_text (c.text_or_empty.ensures ∙ ap (given_or []) c.in_ok-transport.ensures.value) in
    let protocols = texts.protocols ∙ ap (map text_in) (c.elements-3.ensures ∙ ap listed c.in_ok-protocols.ensures.value) in
    λ i. record {
      destination_port = (c.destination_in.ensures ∙ ap destination_in c.in_ok-port.ensures) i;
      prefix_ranges = (c.from_vec.ensures.elements ∙ c.in_ok-below.ensures.values ∙ ap (map cidr_range_of) ranges) i;
      server_names = (c.from_vec-2.ensures.elements ∙ names) i;
      transport_protocol = transport i;
      application_protocols = (c.from_vec-3.ensures.elements ∙ protocols) i;
      direct_source_prefix_ranges = (c.in_ok-sources.ensures.value i).direct_ranges;
      source_type = (c.in_ok-sources.ensures.value i).source_type;
      source_prefix_ranges = (c.in_ok-sources.ensures.value i).ranges;
      source_ports = (c.in_ok-sources.ensures.value i).ports;
    }

pub returns-clause-broken : goal.returns-clause-broken
unfolding range_trees names_asked filter_chain_match_broken
returns-clause-broken c =
    let ranges = c.elements.ensures ∙ ap listed c.in_ok-ranges.ensures.value in
    let below = c.in_ok-below.ensures.broken ∙ ap (any_broken cidr_range_broken) ranges in
    let names = c.in_ok-texts.ensures.names ∙ ap (map lower_text_in) (c.elements-2.ensures ∙ ap listed c.in_ok-names.ensures.value) in
    c.or-2.ensures ∙ (λ i. either_broken (below i) ((c.or.ensures ∙ (λ j. either_broken (c.in_ok-sources.ensures.broken j) (record (c.none.ensures j) {
      v6 = (c.has_wrong_form.ensures ∙ or_same (or_same (or_same (or_same (or_same
          (ap is_wrong c.in_ok-port.ensures)
          (ap is_no_destination c.in_ok-port.ensures))
          c.in_ok-ranges.ensures.wrong)
          c.in_ok-names.ensures.wrong)
          c.in_ok-transport.ensures.wrong)
          c.in_ok-protocols.ensures.wrong) j;
      v27 = (c.has_no_name.ensures ∙ ap has_no_name (c.as_slice.ensures.value ∙ names)) j;
    }))) i))
