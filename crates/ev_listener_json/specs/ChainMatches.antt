-- A filter chain's match (`envoy.config.listener.v3.FilterChainMatch`) with all its criteria,
-- and the rules that it breaks.
-- What is no match, as one that is missing, has no criterion; members of other names are passed over.
use Rattle.std.specs.Prelude.{ℕ, ◌||◌, ◌==◌, List, [], length, map, Bool, false, not, if◌then◌else◌, Option, Some, None, codes}
use Rattle.std.specs.Str.{str_to_ascii_lowercase}
use Rattle.serde_json.specs.Data.{Data}
use Rattle.ev_types.specs.declared.filter_chains.FilterChainMatch.{FilterChainMatch}
use Rattle.ev_tree.specs.declared.broken.BrokenRules.{BrokenRules}
use Rattle.ev_tree.specs.declared.outcome.Found.{Found}
use Rattle.ev_tree.specs.declared.outcome.Found.TheVariants.{Absent, Wrong, Given}
use Rattle.ev_tree.specs.Forms.{is_wrong, given_or, listed, text_in, text_of, number_of, objects_of, texts_of}
use Rattle.ev_tree.specs.Broken.{none_broken, either_broken, any_broken}
use Rattle.ev_listener_json.specs.ServerNames.{has_no_name}
use Rattle.ev_listener_json.specs.CidrRanges.{cidr_range_of, cidr_range_broken}
use Rattle.ev_listener_json.specs.SourceCriteria.{is_destination, sources_of, sources_broken}

-- ---- the criteria

-- the port, where one is given that is one
abbrev pub destination_in : Found ℕ → Option ℕ
destination_in Absent = None
destination_in Wrong = None
destination_in (Given port) = if is_destination port then Some port else None

-- a number is given that is no port
abbrev pub is_no_destination : Found ℕ → Bool
is_no_destination Absent = false
is_no_destination Wrong = false
is_no_destination (Given port) = not (is_destination port)

unfoldable pub range_trees : Data → List Data
range_trees tree = listed (objects_of (codes "prefix_ranges") tree)

-- the text of an element, with its ASCII letters in lower case
abbrev pub lower_text_in : Data → List ℕ
lower_text_in d = str_to_ascii_lowercase (text_in d)

unfoldable pub names_asked : Data → List (List ℕ)
names_asked tree = map lower_text_in (listed (texts_of (codes "server_names") tree))

unfoldable pub protocols_asked : Data → List (List ℕ)
protocols_asked tree = map text_in (listed (texts_of (codes "application_protocols") tree))

-- the text, or none where it is empty
abbrev pub filled_text : List ℕ → Option (List ℕ)
filled_text text = if length text == 0 then None else Some text

-- ---- the match

unfoldable pub filter_chain_match_of : Data → FilterChainMatch
filter_chain_match_of tree = record {
  destination_port = destination_in (number_of (codes "destination_port") tree);
  prefix_ranges = map cidr_range_of (range_trees tree);
  server_names = names_asked tree;
  transport_protocol = filled_text (given_or [] (text_of (codes "transport_protocol") tree));
  application_protocols = protocols_asked tree;
  direct_source_prefix_ranges = (sources_of tree).direct_ranges;
  source_type = (sources_of tree).source_type;
  source_prefix_ranges = (sources_of tree).ranges;
  source_ports = (sources_of tree).ports;
}

-- What a match breaks: what one of its ranges breaks, what the criteria of the source break, and what it breaks itself.
-- V6: a wrong form, or a port that is 0 or above 65535. V27: a server name that isn't one.
unfoldable pub filter_chain_match_broken : Data → BrokenRules
filter_chain_match_broken tree = either_broken (any_broken cidr_range_broken (range_trees tree)) (either_broken (sources_broken tree) (record none_broken {
  v6 =
      is_wrong (number_of (codes "destination_port") tree)
      || is_no_destination (number_of (codes "destination_port") tree)
      || is_wrong (objects_of (codes "prefix_ranges") tree)
      || is_wrong (texts_of (codes "server_names") tree)
      || is_wrong (text_of (codes "transport_protocol") tree)
      || is_wrong (texts_of (codes "application_protocols") tree);
  v27 = has_no_name (names_asked tree);
}))
