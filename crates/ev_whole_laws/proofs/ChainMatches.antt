-- Matches of filter chains, as Envoy reads them.
use Rattle.std.proofs.Common.{◌≡◌, ◌∙◌, ap, refl}
use Rattle.std.specs.Prelude.{◌||◌, [], map, not, is_some, Option, codes}
use Rattle.std.specs.Str.{str_to_ascii_lowercase}
use Rattle.serde_json.specs.Data.{Data, unsigned, negative, float, null, boolean, number, string, array, object}
use Rattle.ev_tree.specs.declared.outcome.Found.{Found}
use Rattle.ev_tree.specs.declared.outcome.Found.TheVariants.{Absent, Wrong, Given}
use Rattle.ev_tree.specs.Forms.{found_map, is_wrong, given_or, listed, text_in, in_form, value_or_wrong, field_of, list_of, texts_of}
use Rattle.ev_tree.specs.Broken.{none_broken, either_broken, any_broken}
use Rattle.ev_tree.specs.Floats.{whole}
use Rattle.ev_listener_json.specs.ServerNames.{has_no_name}
use Rattle.ev_listener_json.specs.CidrRanges.{named_range, cidr_range_in, range_or_every, cidr_range_of, cidr_range_broken}
use Rattle.ev_listener_json.specs.SourceCriteria.{is_given_port, is_source_port, are_source_ports, port_or_zero, source_port_in, source_type_in, source_type_of, source_type_numbered, direct_range_trees, source_range_trees, source_port_trees, sources_of, sources_broken}
use Rattle.ev_listener_json.specs.ChainMatches.{destination_in, is_no_destination, range_trees, lower_text_in, names_asked, protocols_asked, filled_text, filter_chain_match_of, filter_chain_match_broken}
use Rattle.ev_whole_laws.proofs.Forms.{field_of-whole, list_of-whole, listed-objects, listed-texts, number_of-whole, objects-is_wrong, text_in-whole, text_of-whole, texts-is_wrong, u32_in-whole}
use Rattle.ev_whole_laws.proofs.Parts.{any_broken-whole, is_wrong-map, list_all-whole, listed-map, map-whole}

-- ---- ranges of addresses

cidr_range_in-whole : (range : Data) → cidr_range_in (whole range) ≡ cidr_range_in range
unfolding cidr_range_in
cidr_range_in-whole range = λ i. named_range (given_or [] (text_of-whole (codes "address_prefix") range i)) (given_or 0 (number_of-whole (codes "prefix_len") range i))

cidr_range_of-whole : (range : Data) → cidr_range_of (whole range) ≡ cidr_range_of range
unfolding cidr_range_of
cidr_range_of-whole range = λ i. range_or_every (cidr_range_in-whole range i)

cidr_range_broken-whole : (range : Data) → cidr_range_broken (whole range) ≡ cidr_range_broken range
unfolding cidr_range_broken
cidr_range_broken-whole range = λ i. record none_broken {
  v6 = is_wrong (text_of-whole (codes "address_prefix") range i) || is_wrong (number_of-whole (codes "prefix_len") range i);
  v16 = not (is_some (cidr_range_in-whole range i));
}

-- ---- what is asked of the source

source_port-whole : (tree : Data) → source_port_in (whole tree) ≡ source_port_in tree
source_port-whole tree = ap port_or_zero (u32_in-whole tree)

is_source_port-whole : (tree : Data) → is_source_port (whole tree) ≡ is_source_port tree
is_source_port-whole tree = ap is_given_port (u32_in-whole tree)

source_type_in-whole : (tree : Data) → source_type_in (whole tree) ≡ source_type_in tree
unfolding source_type_in
source_type_in-whole null = refl
source_type_in-whole (boolean b) = refl
source_type_in-whole (number (unsigned n)) = refl
source_type_in-whole (number (negative z)) = refl
source_type_in-whole (number (float x)) = refl
source_type_in-whole (string s) = refl
source_type_in-whole (array ds) = refl
source_type_in-whole (object ms) = refl

same_in_form : {A : Type 0} (form : Data → Option A) → ((tree : Data) → form (whole tree) ≡ form tree) → (found : Found Data) → in_form form (found_map whole found) ≡ in_form form found
same_in_form form same Absent = refl
same_in_form form same Wrong = refl
same_in_form form same (Given tree) = ap value_or_wrong (same tree)

source_type_of-whole : (tree : Data) → source_type_of (whole tree) ≡ source_type_of tree
unfolding source_type_of
source_type_of-whole tree =
    ap (in_form source_type_in) (field_of-whole (codes "source_type") tree)
    ∙ same_in_form source_type_in source_type_in-whole (field_of (codes "source_type") tree)

direct_range_trees-whole : (tree : Data) → direct_range_trees (whole tree) ≡ map whole (direct_range_trees tree)
unfolding direct_range_trees
direct_range_trees-whole tree = listed-objects (codes "direct_source_prefix_ranges") tree

source_range_trees-whole : (tree : Data) → source_range_trees (whole tree) ≡ map whole (source_range_trees tree)
unfolding source_range_trees
source_range_trees-whole tree = listed-objects (codes "source_prefix_ranges") tree

source_port_trees-whole : (tree : Data) → source_port_trees (whole tree) ≡ map whole (source_port_trees tree)
unfolding source_port_trees
source_port_trees-whole tree = ap listed (list_of-whole (codes "source_ports") tree) ∙ listed-map (list_of (codes "source_ports") tree)

ports_wrong : (tree : Data) → is_wrong (list_of (codes "source_ports") (whole tree)) ≡ is_wrong (list_of (codes "source_ports") tree)
ports_wrong tree = ap is_wrong (list_of-whole (codes "source_ports") tree) ∙ is_wrong-map (map whole) (list_of (codes "source_ports") tree)

sources_of-whole : (tree : Data) → sources_of (whole tree) ≡ sources_of tree
unfolding sources_of
sources_of-whole tree = λ i. record {
  direct_ranges = (ap (map cidr_range_of) (direct_range_trees-whole tree) ∙ map-whole cidr_range_of cidr_range_of-whole (direct_range_trees tree)) i;
  source_type = source_type_numbered (given_or 0 (source_type_of-whole tree i));
  ranges = (ap (map cidr_range_of) (source_range_trees-whole tree) ∙ map-whole cidr_range_of cidr_range_of-whole (source_range_trees tree)) i;
  ports = (ap (map source_port_in) (source_port_trees-whole tree) ∙ map-whole source_port_in source_port-whole (source_port_trees tree)) i;
}

sources_broken-whole : (tree : Data) → sources_broken (whole tree) ≡ sources_broken tree
unfolding sources_broken
sources_broken-whole tree = λ i. either_broken
    ((ap (any_broken cidr_range_broken) (direct_range_trees-whole tree) ∙ any_broken-whole cidr_range_broken cidr_range_broken-whole (direct_range_trees tree)) i)
    (either_broken
    ((ap (any_broken cidr_range_broken) (source_range_trees-whole tree) ∙ any_broken-whole cidr_range_broken cidr_range_broken-whole (source_range_trees tree)) i)
    (record none_broken {
      v6 =
          objects-is_wrong (codes "direct_source_prefix_ranges") tree i
          || objects-is_wrong (codes "source_prefix_ranges") tree i
          || ports_wrong tree i
          || not ((ap are_source_ports (source_port_trees-whole tree) ∙ list_all-whole is_source_port is_source_port-whole (source_port_trees tree)) i)
          || is_wrong (source_type_of-whole tree i);
    }))

-- ---- the match

range_trees-whole : (tree : Data) → range_trees (whole tree) ≡ map whole (range_trees tree)
unfolding range_trees
range_trees-whole tree = listed-objects (codes "prefix_ranges") tree

lower_text_in-whole : (tree : Data) → lower_text_in (whole tree) ≡ lower_text_in tree
lower_text_in-whole tree = λ i. str_to_ascii_lowercase (text_in-whole tree i)

names_asked-whole : (tree : Data) → names_asked (whole tree) ≡ names_asked tree
unfolding names_asked
names_asked-whole tree = ap (map lower_text_in) (listed-texts (codes "server_names") tree) ∙ map-whole lower_text_in lower_text_in-whole (listed (texts_of (codes "server_names") tree))

protocols_asked-whole : (tree : Data) → protocols_asked (whole tree) ≡ protocols_asked tree
unfolding protocols_asked
protocols_asked-whole tree = ap (map text_in) (listed-texts (codes "application_protocols") tree) ∙ map-whole text_in text_in-whole (listed (texts_of (codes "application_protocols") tree))

pub filter_chain_match_of-whole : (tree : Data) → filter_chain_match_of (whole tree) ≡ filter_chain_match_of tree
unfolding filter_chain_match_of
filter_chain_match_of-whole tree = λ i. record {
  destination_port = destination_in (number_of-whole (codes "destination_port") tree i);
  prefix_ranges = (ap (map cidr_range_of) (range_trees-whole tree) ∙ map-whole cidr_range_of cidr_range_of-whole (range_trees tree)) i;
  server_names = names_asked-whole tree i;
  transport_protocol = filled_text (given_or [] (text_of-whole (codes "transport_protocol") tree i));
  application_protocols = protocols_asked-whole tree i;
  direct_source_prefix_ranges = (sources_of-whole tree i).direct_ranges;
  source_type = (sources_of-whole tree i).source_type;
  source_prefix_ranges = (sources_of-whole tree i).ranges;
  source_ports = (sources_of-whole tree i).ports;
}

pub filter_chain_match_broken-whole : (tree : Data) → filter_chain_match_broken (whole tree) ≡ filter_chain_match_broken tree
unfolding filter_chain_match_broken
filter_chain_match_broken-whole tree = λ i. either_broken ((ap (any_broken cidr_range_broken) (range_trees-whole tree) ∙ any_broken-whole cidr_range_broken cidr_range_broken-whole (range_trees tree)) i) (either_broken (sources_broken-whole tree i) (record none_broken {
  v6 =
      is_wrong (number_of-whole (codes "destination_port") tree i)
      || is_no_destination (number_of-whole (codes "destination_port") tree i)
      || objects-is_wrong (codes "prefix_ranges") tree i
      || texts-is_wrong (codes "server_names") tree i
      || is_wrong (text_of-whole (codes "transport_protocol") tree i)
      || texts-is_wrong (codes "application_protocols") tree i;
  v27 = has_no_name (names_asked-whole tree i);
}))
