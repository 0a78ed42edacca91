-- Clusters.
use Rattle.std.proofs.Common.{◌≡◌, ◌∙◌, ap, refl}
use Rattle.std.specs.Prelude.{◌||◌, ◌&&◌, ◌==◌, [], length, map, Bool, not, nat_lt, if◌then◌else◌, codes}
use Rattle.serde_json.specs.Data.{Data}
use Rattle.ev_types.specs.declared.clusters.Discovery.TheVariants.{Static, Eds, Elsewhere}
use Rattle.ev_types.specs.declared.events.Profile.{Profile}
use Rattle.ev_types.specs.declared.events.Profile.TheVariants.{Own, Envoy}
use Rattle.ev_types.specs.Profiles.{is_envoy}
use Rattle.ev_tree.specs.declared.limits.TheConstants.{MAX_NAME_BYTES}
use Rattle.ev_tree.specs.declared.tables.EnumTable.TheVariants.{Discovery as DiscoveryTable}
use Rattle.ev_tree.specs.Forms.{is_wrong, given_or, inside, listed, text_of, object_of, objects_of}
use Rattle.ev_tree.specs.Rules.{judged, is_name}
use Rattle.ev_tree.specs.Broken.{none_broken, either_broken, broken_where, least_of}
use Rattle.ev_tree.specs.Spans.{is_not_positive}
use Rattle.ev_tree.specs.Sources.{source_broken_in, source_is_limited}
use Rattle.ev_cluster_json.specs.declared.parts.TheConstants.{STATIC, EDS}
use Rattle.ev_cluster_json.specs.Assignments.{rows_of, assignment_broken}
use Rattle.ev_cluster_json.specs.Clusters.{name_of, type_of, is_static, is_eds, has_custom_type, is_in_cluster, is_by_eds, holds_hosts, asks_hosts, eds_of, eds_source_of, service_name_of, load_assignment_of, service_with, service_of, is_checked, cluster_own_broken, eds_broken, load_assignment_broken, cluster_broken, discovery_of, cluster_of, cluster_reading}
use Rattle.ev_secret_json.specs.References.{each_joined}
use Rattle.ev_secret_json.specs.TransportSockets.{transport_secrets}
use Rattle.ev_cluster_json.specs.Sockets.{matches_of, match_secrets, given_where, cluster_secrets}
use Rattle.ev_tree.specs.Floats.{whole}
use Rattle.ev_whole_laws.proofs.Texts.{body_text_of-whole}
use Rattle.ev_whole_laws.proofs.Assignments.{assignment_broken-whole, rows_of-whole}
use Rattle.ev_whole_laws.proofs.Forms.{duration_of-whole, enumeration_of-whole, inside-object, listed-objects, object-is_absent, object-is_given, object-is_wrong, objects-is_wrong, text_of-whole}
use Rattle.ev_whole_laws.proofs.Parts.{length-whole}
use Rattle.ev_whole_laws.proofs.Secrets.{each_joined-whole, transport_secrets-whole}
use Rattle.ev_whole_laws.proofs.Sources.{source_broken_in-whole, source_is_limited-whole}

pub name_of-whole : (tree : Data) → name_of (whole tree) ≡ name_of tree
unfolding name_of
name_of-whole tree = λ i. given_or [] (text_of-whole (codes "name") tree i)

pub type_of-whole : (tree : Data) → type_of (whole tree) ≡ type_of tree
unfolding type_of
type_of-whole tree = λ i. given_or STATIC (enumeration_of-whole (codes "type") DiscoveryTable tree i)

pub is_static-whole : (tree : Data) → is_static (whole tree) ≡ is_static tree
is_static-whole tree = λ i. type_of-whole tree i == STATIC

pub is_eds-whole : (tree : Data) → is_eds (whole tree) ≡ is_eds tree
is_eds-whole tree = λ i. type_of-whole tree i == EDS

has_custom_type-whole : (tree : Data) → has_custom_type (whole tree) ≡ has_custom_type tree
has_custom_type-whole tree = object-is_given (codes "cluster_type") tree

holds_hosts-whole : (profile : Profile) (tree : Data) → holds_hosts profile (whole tree) ≡ holds_hosts profile tree
holds_hosts-whole profile tree = λ i. is_in_cluster profile (has_custom_type-whole tree i) (type_of-whole tree i)

asks_hosts-whole : (profile : Profile) (tree : Data) → asks_hosts profile (whole tree) ≡ asks_hosts profile tree
asks_hosts-whole profile tree = λ i. is_by_eds profile (has_custom_type-whole tree i) (type_of-whole tree i)

pub eds_of-whole : (tree : Data) → eds_of (whole tree) ≡ whole (eds_of tree)
unfolding eds_of
eds_of-whole tree = inside-object (codes "eds_cluster_config") tree

pub eds_source_of-whole : (tree : Data) → eds_source_of (whole tree) ≡ whole (eds_source_of tree)
unfolding eds_source_of
eds_source_of-whole tree = ap (λ (t : Data). inside (object_of (codes "eds_config") t)) (eds_of-whole tree) ∙ inside-object (codes "eds_config") (eds_of tree)

pub service_name_of-whole : (tree : Data) → service_name_of (whole tree) ≡ service_name_of tree
unfolding service_name_of
service_name_of-whole tree = λ i. given_or [] ((ap (text_of (codes "service_name")) (eds_of-whole tree) ∙ text_of-whole (codes "service_name") (eds_of tree)) i)

pub load_assignment_of-whole : (tree : Data) → load_assignment_of (whole tree) ≡ whole (load_assignment_of tree)
unfolding load_assignment_of
load_assignment_of-whole tree = inside-object (codes "load_assignment") tree

pub service_of-whole : (tree : Data) → service_of (whole tree) ≡ service_of tree
service_of-whole tree = λ i. service_with (name_of-whole tree i) (service_name_of-whole tree i)

pub is_checked-whole : (tree : Data) → is_checked (whole tree) ≡ is_checked tree
unfolding is_checked
is_checked-whole tree = λ i. not ((ap length (listed-objects (codes "health_checks") tree) ∙ length-whole (listed (objects_of (codes "health_checks") tree))) i == 0)

pub own_broken-whole : (profile : Profile) (tree : Data) → cluster_own_broken profile (whole tree) ≡ cluster_own_broken profile tree
unfolding cluster_own_broken
own_broken-whole profile tree = λ i. record none_broken {
  v3 = not (is_wrong (text_of-whole (codes "name") tree i)) && not (is_name (name_of-whole tree i));
  v6 =
      is_wrong (text_of-whole (codes "name") tree i)
      || is_wrong (enumeration_of-whole (codes "type") DiscoveryTable tree i)
      || object-is_wrong (codes "cluster_type") tree i
      || is_wrong (duration_of-whole (codes "connect_timeout") tree i)
      || objects-is_wrong (codes "health_checks") tree i;
  v7 = not (is_envoy profile) && (not (is_static-whole tree i || is_eds-whole tree i) || has_custom_type-whole tree i);
  v11 = is_not_positive (duration_of-whole (codes "connect_timeout") tree i);
}

pub eds_broken-whole : (profile : Profile) (by_eds : Bool) (tree : Data) → eds_broken profile by_eds (whole tree) ≡ eds_broken profile by_eds tree
unfolding eds_broken
eds_broken-whole profile by_eds tree = λ i. either_broken (broken_where (object-is_given (codes "eds_cluster_config") tree i) ((ap (source_broken_in profile) (eds_source_of-whole tree) ∙ source_broken_in-whole profile (eds_source_of tree)) i)) (record none_broken {
  v2 = nat_lt MAX_NAME_BYTES (length (service_name_of-whole tree i));
  v6 =
      object-is_wrong (codes "eds_cluster_config") tree i
      || (ap (λ (t : Data). is_wrong (object_of (codes "eds_config") t)) (eds_of-whole tree) ∙ object-is_wrong (codes "eds_config") (eds_of tree)) i
      || is_wrong ((ap (text_of (codes "service_name")) (eds_of-whole tree) ∙ text_of-whole (codes "service_name") (eds_of tree)) i);
  v8 = by_eds && object-is_absent (codes "eds_cluster_config") tree i;
  v9 = not by_eds && object-is_given (codes "eds_cluster_config") tree i;
})

pub load_assignment_broken-whole : (profile : Profile) (tree : Data) → load_assignment_broken profile (whole tree) ≡ load_assignment_broken profile tree
unfolding load_assignment_broken
load_assignment_broken-whole profile tree = λ i. either_broken ((ap (assignment_broken profile) (load_assignment_of-whole tree) ∙ assignment_broken-whole profile (load_assignment_of tree)) i) (record none_broken {
  v6 = object-is_wrong (codes "load_assignment") tree i;
})

-- the secrets that its transport sockets refer to
matches_of-whole : (tree : Data) → matches_of (whole tree) ≡ map whole (matches_of tree)
unfolding matches_of
matches_of-whole tree = listed-objects (codes "transport_socket_matches") tree

match_secrets-whole : (tree : Data) → match_secrets (whole tree) ≡ match_secrets tree
unfolding match_secrets
match_secrets-whole tree = ap (each_joined transport_secrets) (matches_of-whole tree) ∙ each_joined-whole transport_secrets transport_secrets-whole (matches_of tree)

cluster_secrets-whole : (profile : Profile) (tree : Data) → cluster_secrets profile (whole tree) ≡ cluster_secrets profile tree
unfolding cluster_secrets
cluster_secrets-whole Own tree = refl
cluster_secrets-whole Envoy tree = λ i. record {
  own = (transport_secrets-whole tree i).list;
  by_match = given_where (not ((ap length (matches_of-whole tree) ∙ length-whole (matches_of tree)) i == 0)) (match_secrets-whole tree i).list;
  broken =
      either_broken (transport_secrets-whole tree i).broken
      (either_broken (match_secrets-whole tree i).broken (record none_broken { v6 = objects-is_wrong (codes "transport_socket_matches") tree i }));
}

pub cluster_broken-whole : (profile : Profile) (tree : Data) → cluster_broken profile (whole tree) ≡ cluster_broken profile tree
unfolding cluster_broken
cluster_broken-whole profile tree = λ i.
    either_broken (own_broken-whole profile tree i)
    (either_broken (((λ j. eds_broken profile (asks_hosts-whole profile tree j) (whole tree)) ∙ eds_broken-whole profile (asks_hosts profile tree) tree) i)
    (either_broken (broken_where (holds_hosts-whole profile tree i) (load_assignment_broken-whole profile tree i)) (cluster_secrets-whole profile tree i).broken))

pub discovery_of-whole : (profile : Profile) (tree : Data) → discovery_of profile (whole tree) ≡ discovery_of profile tree
unfolding discovery_of
discovery_of-whole profile tree = λ i.
    if holds_hosts-whole profile tree i
    then Static ((ap (rows_of profile) (load_assignment_of-whole tree) ∙ rows_of-whole profile (load_assignment_of tree)) i)
    else if asks_hosts-whole profile tree i
    then Eds (service_of-whole tree i) ((ap source_is_limited (eds_source_of-whole tree) ∙ source_is_limited-whole (eds_source_of tree)) i) (is_envoy profile)
    else Elsewhere

pub cluster_of-whole : (profile : Profile) (tree : Data) → cluster_of profile (whole tree) ≡ cluster_of profile tree
cluster_of-whole profile tree = λ i. record {
  name = name_of-whole tree i;
  discovery = discovery_of-whole profile tree i;
  checked = is_checked-whole tree i;
  secrets = (cluster_secrets-whole profile tree i).own;
  secrets_by_match = (cluster_secrets-whole profile tree i).by_match;
  body_text = body_text_of-whole profile tree i;
}

pub cluster_reading-whole : (profile : Profile) (tree : Data) → cluster_reading profile (whole tree) ≡ cluster_reading profile tree
cluster_reading-whole profile tree = λ i. judged (least_of (cluster_broken-whole profile tree i)) (cluster_of-whole profile tree i)
