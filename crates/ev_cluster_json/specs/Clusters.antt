-- Clusters (`envoy.config.cluster.v3.Cluster`), and the rules that they break,
-- by this project's own rules and as Envoy reads them.
use Rattle.std.specs.Prelude.{ℕ, ◌||◌, ◌&&◌, ◌==◌, List, [], length, Bool, not, nat_lt, nat_le, if◌then◌else◌, Result, codes}
use Rattle.serde_json.specs.Data.{Data}
use Rattle.ev_types.specs.declared.clusters.Cluster.{Cluster}
use Rattle.ev_types.specs.declared.clusters.Discovery.{Discovery}
use Rattle.ev_types.specs.declared.clusters.Discovery.TheVariants.{Static, Eds, Elsewhere}
use Rattle.ev_types.specs.declared.events.Profile.{Profile}
use Rattle.ev_types.specs.declared.events.Profile.TheVariants.{Own, Envoy}
use Rattle.ev_types.specs.Profiles.{is_envoy}
use Rattle.ev_tree.specs.declared.broken.BrokenRules.{BrokenRules}
use Rattle.ev_tree.specs.declared.limits.TheConstants.{MAX_NAME_BYTES}
use Rattle.ev_tree.specs.declared.tables.EnumTable.TheVariants.{Discovery as DiscoveryTable}
use Rattle.ev_tree.specs.Forms.{is_wrong, is_given, is_absent, given_or, inside, listed, text_of, duration_of, object_of, objects_of, enumeration_of}
use Rattle.ev_tree.specs.Rules.{judged, is_name}
use Rattle.ev_tree.specs.Broken.{none_broken, either_broken, broken_where, least_of}
use Rattle.ev_tree.specs.Spans.{is_not_positive}
use Rattle.ev_tree.specs.Floats.{body_text_of}
use Rattle.ev_tree.specs.Sources.{source_broken_in, source_is_limited}
use Rattle.ev_cluster_json.specs.declared.parts.TheConstants.{STATIC, LOGICAL_DNS, EDS}
use Rattle.ev_cluster_json.specs.Assignments.{rows_of, assignment_broken}
use Rattle.ev_cluster_json.specs.Sockets.{cluster_secrets}

-- ---- the parts of a cluster

unfoldable pub name_of : Data → List ℕ
name_of tree = given_or [] (text_of (codes "name") tree)

-- the number of the discovery type: STATIC where none is given
unfoldable pub type_of : Data → ℕ
type_of tree = given_or STATIC (enumeration_of (codes "type") DiscoveryTable tree)

-- STATIC
abbrev pub is_static : Data → Bool
is_static tree = type_of tree == STATIC

-- EDS
abbrev pub is_eds : Data → Bool
is_eds tree = type_of tree == EDS

-- a custom type is given
abbrev pub has_custom_type : Data → Bool
has_custom_type tree = is_given (object_of (codes "cluster_type") tree)

-- the hosts stand in a cluster of this type: by the own rules of type STATIC alone;
-- as Envoy reads it also of STRICT_DNS and LOGICAL_DNS, whose hosts may be names, unless a custom type decides
abbrev pub is_in_cluster : Profile → Bool → ℕ → Bool
is_in_cluster Own custom type = type == STATIC
is_in_cluster Envoy custom type = not custom && nat_le type LOGICAL_DNS

-- the hosts come by EDS: as Envoy reads it, unless a custom type decides
abbrev pub is_by_eds : Profile → Bool → ℕ → Bool
is_by_eds Own custom type = type == EDS
is_by_eds Envoy custom type = not custom && (type == EDS)

-- the same of a cluster
abbrev pub holds_hosts : Profile → Data → Bool
holds_hosts profile tree = is_in_cluster profile (has_custom_type tree) (type_of tree)

abbrev pub asks_hosts : Profile → Data → Bool
asks_hosts profile tree = is_by_eds profile (has_custom_type tree) (type_of tree)

unfoldable pub eds_of : Data → Data
eds_of tree = inside (object_of (codes "eds_cluster_config") tree)

unfoldable pub eds_source_of : Data → Data
eds_source_of tree = inside (object_of (codes "eds_config") (eds_of tree))

unfoldable pub service_name_of : Data → List ℕ
service_name_of tree = given_or [] (text_of (codes "service_name") (eds_of tree))

unfoldable pub load_assignment_of : Data → Data
load_assignment_of tree = inside (object_of (codes "load_assignment") tree)

-- the name that its hosts are asked for by: its own where no other is given
abbrev pub service_with : List ℕ → List ℕ → List ℕ
service_with name service_name = if length service_name == 0 then name else service_name

abbrev pub service_of : Data → List ℕ
service_of tree = service_with (name_of tree) (service_name_of tree)

unfoldable pub is_checked : Data → Bool
is_checked tree = not (length (listed (objects_of (codes "health_checks") tree)) == 0)

-- ---- the rules

-- What the fields of the cluster itself break.
-- V3, in the one case that shows in the cluster alone: a name that is no name differs from each outer name.
-- V7, by the own rules alone: the type is neither STATIC nor EDS, or a custom type is given. V11:
-- a connect timeout is given that isn't positive.
unfoldable pub cluster_own_broken : Profile → Data → BrokenRules
cluster_own_broken profile tree = record none_broken {
  v3 = not (is_wrong (text_of (codes "name") tree)) && not (is_name (name_of tree));
  v6 =
      is_wrong (text_of (codes "name") tree)
      || is_wrong (enumeration_of (codes "type") DiscoveryTable tree)
      || is_wrong (object_of (codes "cluster_type") tree)
      || is_wrong (duration_of (codes "connect_timeout") tree)
      || is_wrong (objects_of (codes "health_checks") tree);
  v7 = not (is_envoy profile) && (not (is_static tree || is_eds tree) || has_custom_type tree);
  v11 = is_not_positive (duration_of (codes "connect_timeout") tree);
}

-- What the configuration of EDS breaks, by whether the hosts come by it:
-- what its source breaks, and what it breaks itself.
-- V2: the service's name is too long, whatever the type is. V8: EDS without its configuration. V9: the configuration of
-- EDS where the hosts don't come by it.
unfoldable pub eds_broken : Profile → Bool → Data → BrokenRules
eds_broken profile by_eds tree = either_broken (broken_where (is_given (object_of (codes "eds_cluster_config") tree)) (source_broken_in profile (eds_source_of tree))) (record none_broken {
  v2 = nat_lt MAX_NAME_BYTES (length (service_name_of tree));
  v6 =
      is_wrong (object_of (codes "eds_cluster_config") tree)
      || is_wrong (object_of (codes "eds_config") (eds_of tree))
      || is_wrong (text_of (codes "service_name") (eds_of tree));
  v8 = by_eds && is_absent (object_of (codes "eds_cluster_config") tree);
  v9 = not by_eds && is_given (object_of (codes "eds_cluster_config") tree);
})

-- what the hosts that stand in the cluster break
unfoldable pub load_assignment_broken : Profile → Data → BrokenRules
load_assignment_broken profile tree = either_broken (assignment_broken profile (load_assignment_of tree)) (record none_broken {
  v6 = is_wrong (object_of (codes "load_assignment") tree);
})

-- What a cluster breaks. The hosts that stand in it are read where its type says so, and passed over else.
unfoldable pub cluster_broken : Profile → Data → BrokenRules
cluster_broken profile tree =
    either_broken (cluster_own_broken profile tree)
    (either_broken (eds_broken profile (asks_hosts profile tree) tree)
    (either_broken (broken_where (holds_hosts profile tree) (load_assignment_broken profile tree)) (cluster_secrets profile tree).broken))

-- ---- the value

-- As Envoy reads it, endpoints have to come anew for each generation.
-- What is neither in the cluster nor by EDS is found elsewhere;
-- by the own rules that breaks V7, so it never shows.
unfoldable pub discovery_of : Profile → Data → Discovery
discovery_of profile tree =
    if holds_hosts profile tree then Static (rows_of profile (load_assignment_of tree))
    else if asks_hosts profile tree then Eds (service_of tree) (source_is_limited (eds_source_of tree)) (is_envoy profile)
    else Elsewhere

abbrev pub cluster_of : Profile → Data → Cluster
cluster_of profile tree = record {
  name = name_of tree;
  discovery = discovery_of profile tree;
  checked = is_checked tree;
  secrets = (cluster_secrets profile tree).own;
  secrets_by_match = (cluster_secrets profile tree).by_match;
  body_text = body_text_of profile tree;
}

-- what a cluster reads as
abbrev pub cluster_reading : Profile → Data → Result Cluster ℕ
cluster_reading profile tree = judged (least_of (cluster_broken profile tree)) (cluster_of profile tree)
