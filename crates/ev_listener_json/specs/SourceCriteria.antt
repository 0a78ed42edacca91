-- What a filter chain's match asks of where a connection comes from.
use Rattle.std.specs.Prelude.{ℕ, ◌||◌, ◌&&◌, ◌==◌, List, map, Bool, false, not, nat_le, nat_lt, if◌then◌else◌, Option, Some, None, codes}
use Rattle.std.specs.List.{list_all}
use Rattle.std.specs.Str.{bytes_eq}
use Rattle.serde_json.specs.Data.{unsigned, negative, float, Data, null, boolean, number, string, array, object}
use Rattle.ev_types.specs.declared.filter_chains.SourceType.{SourceType}
use Rattle.ev_types.specs.declared.filter_chains.SourceType.TheVariants.{SameIpOrLoopback, External}
use Rattle.ev_tree.specs.declared.broken.BrokenRules.{BrokenRules}
use Rattle.ev_tree.specs.declared.limits.TheConstants.{MAX_PORT}
use Rattle.ev_tree.specs.declared.outcome.Found.{Found}
use Rattle.ev_tree.specs.Scalars.{u32_in}
use Rattle.ev_tree.specs.Forms.{is_wrong, given_or, listed, in_form, field_of, list_of, objects_of}
use Rattle.ev_tree.specs.Broken.{none_broken, either_broken, any_broken}
use Rattle.ev_listener_json.specs.CidrRanges.{cidr_range_of, cidr_range_broken}
use Rattle.ev_listener_json.specs.declared.source_criteria.Sources.{Sources}

-- ---- a port: 1 to 65535

abbrev pub is_destination : ℕ → Bool
is_destination port = nat_le 1 port && nat_le port MAX_PORT

-- ---- `source_ports`: a list of numbers

-- a number is given that is a port
abbrev pub is_given_port : Option ℕ → Bool
is_given_port None = false
is_given_port (Some port) = is_destination port

abbrev pub is_source_port : Data → Bool
is_source_port d = is_given_port (u32_in d)

-- each of these is
abbrev pub are_source_ports : List Data → Bool
are_source_ports ds = list_all is_source_port ds

-- the port. What is none breaks V6; it represents port 0, which never shows.
abbrev pub port_or_zero : Option ℕ → ℕ
port_or_zero None = 0
port_or_zero (Some port) = if is_destination port then port else 0

abbrev pub source_port_in : Data → ℕ
source_port_in d = port_or_zero (u32_in d)

-- ---- `source_type`: an enum

-- the number of a name
abbrev pub source_type_named : List ℕ → Option ℕ
source_type_named name =
    if bytes_eq name (codes "ANY") then Some 0
    else if bytes_eq name (codes "SAME_IP_OR_LOOPBACK") then Some 1
    else if bytes_eq name (codes "EXTERNAL") then Some 2
    else None

-- one of these names, or the number of one
unfoldable pub source_type_in : Data → Option ℕ
source_type_in null = None
source_type_in (boolean b) = None
source_type_in (number (unsigned n)) = if nat_lt n 3 then Some n else None
source_type_in (number (negative z)) = None
source_type_in (number (float x)) = None
source_type_in (string s) = source_type_named s
source_type_in (array ds) = None
source_type_in (object ms) = None

unfoldable pub source_type_of : Data → Found ℕ
source_type_of tree = in_form source_type_in (field_of (codes "source_type") tree)

-- the type of this number: 0 is any
abbrev pub source_type_numbered : ℕ → Option SourceType
source_type_numbered n = if n == 1 then Some SameIpOrLoopback else if n == 2 then Some External else None

-- ---- all of them

unfoldable pub direct_range_trees : Data → List Data
direct_range_trees tree = listed (objects_of (codes "direct_source_prefix_ranges") tree)

unfoldable pub source_range_trees : Data → List Data
source_range_trees tree = listed (objects_of (codes "source_prefix_ranges") tree)

unfoldable pub source_port_trees : Data → List Data
source_port_trees tree = listed (list_of (codes "source_ports") tree)

-- what is asked of the source
unfoldable pub sources_of : Data → Sources
sources_of tree = record {
  direct_ranges = map cidr_range_of (direct_range_trees tree);
  source_type = source_type_numbered (given_or 0 (source_type_of tree));
  ranges = map cidr_range_of (source_range_trees tree);
  ports = map source_port_in (source_port_trees tree);
}

-- What they break: what one of the ranges breaks, and what they break themselves. V6:
-- wrong forms, and a port that is none.
unfoldable pub sources_broken : Data → BrokenRules
sources_broken tree =
    either_broken (any_broken cidr_range_broken (direct_range_trees tree))
    (either_broken (any_broken cidr_range_broken (source_range_trees tree)) (record none_broken {
      v6 =
          is_wrong (objects_of (codes "direct_source_prefix_ranges") tree)
          || is_wrong (objects_of (codes "source_prefix_ranges") tree)
          || is_wrong (list_of (codes "source_ports") tree)
          || not (are_source_ports (source_port_trees tree))
          || is_wrong (source_type_of tree);
    }))
