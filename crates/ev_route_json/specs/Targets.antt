-- Where requests go, by this project's own rules and as Envoy reads it:
-- `cluster` or `weighted_clusters`, as a route action (`envoy.config.route.v3.RouteAction`) and a TCP proxy
-- (`envoy.extensions.filters.network.tcp_proxy.v3.TcpProxy`) have them.
use Rattle.std.specs.Prelude.{ℕ, ◌||◌, ◌&&◌, ◌==◌, List, [], ◌∷◌, length, map, Bool, false, not, nat_le, if◌then◌else◌, Result, codes}
use Rattle.std.specs.List.{list_any}
use Rattle.serde_json.specs.Data.{Data}
use Rattle.ev_types.specs.Weights.{weight_sum}
use Rattle.ev_types.specs.declared.events.Profile.{Profile}
use Rattle.ev_types.specs.declared.events.Profile.TheVariants.{Own, Envoy}
use Rattle.ev_types.specs.declared.routes.WeightedCluster.{WeightedCluster}
use Rattle.ev_types.specs.declared.routes.Target.{Target}
use Rattle.ev_types.specs.declared.routes.Target.TheVariants.{One, Weighted, Elsewhere}
use Rattle.ev_tree.specs.declared.broken.BrokenRules.{BrokenRules}
use Rattle.ev_types.specs.declared.limits.TheConstants.{MAX_WEIGHT_SUM}
use Rattle.ev_tree.specs.declared.outcome.Found.{Found}
use Rattle.ev_tree.specs.declared.outcome.Found.TheVariants.{Absent, Wrong, Given}
use Rattle.ev_tree.specs.Forms.{is_wrong, is_given, given_or, inside, listed, field_of, text_of, number_of, object_of, objects_of}
use Rattle.ev_tree.specs.Rules.{judged}
use Rattle.ev_tree.specs.Broken.{none_broken, either_broken, any_broken, least_of}
use Rattle.ev_tree.specs.Counts.{exactly_one}
use Rattle.ev_route_json.specs.Presence.{any_given, any_doubled}

-- ---- an entry of `weighted_clusters`

-- the cluster and its weight, which is 0 where none is given
unfoldable pub entry_of : Data → WeightedCluster
entry_of entry = record {
  name = given_or [] (text_of (codes "name") entry);
  weight = given_or 0 (number_of (codes "weight") entry);
}

-- What an entry breaks. V22: its cluster is named by a header. V23: no name, or an empty one.
unfoldable pub entry_broken : Data → BrokenRules
entry_broken entry = record none_broken {
  v6 =
      is_wrong (text_of (codes "name") entry)
      || is_wrong (number_of (codes "weight") entry)
      || is_wrong (field_of (codes "cluster_header") entry);
  v22 = is_given (field_of (codes "cluster_header") entry);
  v23 = length (given_or [] (text_of (codes "name") entry)) == 0;
}

-- ---- a target

-- the cluster specifiers that the profile lacks
abbrev pub other_specifiers : List (List ℕ)
other_specifiers = codes "cluster_header" ∷ codes "cluster_specifier_plugin" ∷ codes "inline_cluster_specifier_plugin" ∷ []

unfoldable pub entries_of : Data → List Data
entries_of tree = listed (objects_of (codes "clusters") (inside (object_of (codes "weighted_clusters") tree)))

abbrev pub clusters_of : Data → List WeightedCluster
clusters_of tree = map entry_of (entries_of tree)

-- weights that a pick can be taken of: they sum to 1 to 2^32 - 1
abbrev pub has_weight : List WeightedCluster → Bool
has_weight clusters = nat_le 1 (weight_sum clusters) && nat_le (weight_sum clusters) MAX_WEIGHT_SUM

-- given, and empty
abbrev pub is_empty_text : Found (List ℕ) → Bool
is_empty_text Absent = false
is_empty_text Wrong = false
is_empty_text (Given text) = length text == 0

-- What a target breaks: what one of its entries breaks, and what it breaks itself. V22: not exactly one of `cluster`
-- and `weighted_clusters`, or another specifier. V23: `cluster` is empty. V24: weights are given that no pick can be
-- taken of.
unfoldable pub target_broken : Data → BrokenRules
target_broken tree = either_broken (any_broken entry_broken (entries_of tree)) (record none_broken {
  v6 =
      is_wrong (text_of (codes "cluster") tree)
      || is_wrong (object_of (codes "weighted_clusters") tree)
      || is_wrong (objects_of (codes "clusters") (inside (object_of (codes "weighted_clusters") tree)))
      || any_doubled other_specifiers tree;
  v22 =
      not (exactly_one (is_given (text_of (codes "cluster") tree) ∷ is_given (object_of (codes "weighted_clusters") tree) ∷ []))
      || any_given other_specifiers tree;
  v23 = is_empty_text (text_of (codes "cluster") tree);
  v24 = is_given (object_of (codes "weighted_clusters") tree) && not (has_weight (clusters_of tree));
})

-- the weighted clusters, where they have weights, and otherwise the one cluster
abbrev pub target_with : List WeightedCluster → List ℕ → Target
target_with clusters cluster = if has_weight clusters then Weighted clusters else One cluster

unfoldable pub target_of : Data → Target
target_of tree = target_with (clusters_of tree) (given_or [] (text_of (codes "cluster") tree))

-- ---- a target of a route, as Envoy reads it

-- a text is given that isn't empty
abbrev pub has_text : Found (List ℕ) → Bool
has_text Absent = false
has_text Wrong = false
has_text (Given text) = not (length text == 0)

-- an entry's cluster is named by a header of the request
abbrev pub is_by_header : Data → Bool
is_by_header entry = has_text (text_of (codes "cluster_header") entry)

-- What an entry breaks. V23: no name, or an empty one, unless a header names the cluster.
unfoldable pub envoy_entry_broken : Data → BrokenRules
envoy_entry_broken entry = record none_broken {
  v6 =
      is_wrong (text_of (codes "name") entry)
      || is_wrong (number_of (codes "weight") entry)
      || is_wrong (text_of (codes "cluster_header") entry);
  v23 = not (is_by_header entry) && length (given_or [] (text_of (codes "name") entry)) == 0;
}

-- a header, or an extension, names the cluster
abbrev pub has_other_specifier : Data → Bool
has_other_specifier tree =
    is_given (text_of (codes "cluster_header") tree)
    || is_given (text_of (codes "cluster_specifier_plugin") tree)
    || is_given (object_of (codes "inline_cluster_specifier_plugin") tree)

-- of each specifier whether it is given
abbrev pub specifiers_given : Data → List Bool
specifiers_given tree =
    is_given (text_of (codes "cluster") tree)
    ∷ is_given (object_of (codes "weighted_clusters") tree)
    ∷ is_given (text_of (codes "cluster_header") tree)
    ∷ is_given (text_of (codes "cluster_specifier_plugin") tree)
    ∷ is_given (object_of (codes "inline_cluster_specifier_plugin") tree)
    ∷ []

-- What a route's target breaks. V22: not exactly one specifier. V23: `cluster` is empty. V24:
-- weights are given that no pick can be taken of.
unfoldable pub envoy_target_broken : Data → BrokenRules
envoy_target_broken tree = either_broken (any_broken envoy_entry_broken (entries_of tree)) (record none_broken {
  v6 =
      is_wrong (text_of (codes "cluster") tree)
      || is_wrong (object_of (codes "weighted_clusters") tree)
      || is_wrong (objects_of (codes "clusters") (inside (object_of (codes "weighted_clusters") tree)))
      || is_wrong (text_of (codes "cluster_header") tree)
      || is_wrong (text_of (codes "cluster_specifier_plugin") tree)
      || is_wrong (object_of (codes "inline_cluster_specifier_plugin") tree);
  v22 = not (exactly_one (specifiers_given tree));
  v23 = is_empty_text (text_of (codes "cluster") tree);
  v24 = is_given (object_of (codes "weighted_clusters") tree) && not (has_weight (clusters_of tree));
})

-- no script tells the cluster: another specifier names it, or a header in one of the entries
unfoldable pub is_target_elsewhere : Data → Bool
is_target_elsewhere tree = has_other_specifier tree || list_any is_by_header (entries_of tree)

abbrev pub envoy_target_with : Bool → Target → Target
envoy_target_with elsewhere target = if elsewhere then Elsewhere else target

unfoldable pub envoy_target_of : Data → Target
envoy_target_of tree = envoy_target_with (is_target_elsewhere tree) (target_of tree)

-- ---- a target of a TCP proxy, as Envoy reads it: it has no other specifiers, so those are passed over

unfoldable pub proxy_entry_broken : Data → BrokenRules
proxy_entry_broken entry = record none_broken {
  v6 = is_wrong (text_of (codes "name") entry) || is_wrong (number_of (codes "weight") entry);
  v23 = length (given_or [] (text_of (codes "name") entry)) == 0;
}

unfoldable pub proxy_target_broken : Data → BrokenRules
proxy_target_broken tree = either_broken (any_broken proxy_entry_broken (entries_of tree)) (record none_broken {
  v6 =
      is_wrong (text_of (codes "cluster") tree)
      || is_wrong (object_of (codes "weighted_clusters") tree)
      || is_wrong (objects_of (codes "clusters") (inside (object_of (codes "weighted_clusters") tree)));
  v22 = not (exactly_one (is_given (text_of (codes "cluster") tree) ∷ is_given (object_of (codes "weighted_clusters") tree) ∷ []));
  v23 = is_empty_text (text_of (codes "cluster") tree);
  v24 = is_given (object_of (codes "weighted_clusters") tree) && not (has_weight (clusters_of tree));
})

-- ---- in a profile

abbrev pub entry_broken_in : Profile → Data → BrokenRules
entry_broken_in Own entry = entry_broken entry
entry_broken_in Envoy entry = envoy_entry_broken entry

-- of a route
abbrev pub target_in : Profile → Data → Target
target_in Own tree = target_of tree
target_in Envoy tree = envoy_target_of tree

abbrev pub target_broken_in : Profile → Data → BrokenRules
target_broken_in Own tree = target_broken tree
target_broken_in Envoy tree = envoy_target_broken tree

-- of a TCP proxy, whose value is that of the own rules in both
abbrev pub proxy_broken_in : Profile → Data → BrokenRules
proxy_broken_in Own tree = target_broken tree
proxy_broken_in Envoy tree = proxy_target_broken tree

-- what a target reads as
abbrev pub target_reading : Profile → Data → Result Target ℕ
target_reading profile tree = judged (least_of (target_broken_in profile tree)) (target_in profile tree)
