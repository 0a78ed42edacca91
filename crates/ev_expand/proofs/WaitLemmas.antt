-- A cluster that waits for a name is read as one whose endpoints come by it, without limit.
use Rattle.std.proofs.Common.{◌≡◌, ◌∙◌, ℕ, ◌≤◌, Bool, true, false, not, ◌&&◌, ◌||◌, ◌==◌, nat_le, nat_lt, cond, List, [], ◌∷◌, length, Option, Some, None, Ok, codes, refl, sym, ap, arith, ne_eqb}
use Rattle.std.specs.Str.{bytes_eq}
use Rattle.serde_json.specs.Data.{Data, string, object, no_members, put}
use Rattle.serde_json.specs.Find.{get}
use Rattle.ev_types.specs.declared.clusters.Cluster.{Cluster}
use Rattle.ev_types.specs.declared.clusters.Discovery.TheVariants.{Static, Eds, Elsewhere}
use Rattle.ev_types.specs.declared.events.Profile.{Profile}
use Rattle.ev_types.specs.declared.events.Profile.TheVariants.{Own, Envoy}
use Rattle.ev_types.specs.Profiles.{is_envoy}
use Rattle.ev_tree.specs.declared.broken.BrokenRules.{BrokenRules}
use Rattle.ev_tree.specs.declared.limits.TheConstants.{MAX_NAME_BYTES}
use Rattle.ev_tree.specs.declared.outcome.Found.{Found}
use Rattle.ev_tree.specs.declared.outcome.Found.TheVariants.{Given}
use Rattle.ev_tree.specs.declared.tables.EnumTable.TheVariants.{Discovery as DiscoveryTable}
use Rattle.ev_tree.specs.Scalars.{enum_in, named_in, span_of, before_unit, signed_span, seconds_span, whole_span}
use Rattle.ev_tree.specs.Spelling.{camel_of}
use Rattle.ev_tree.specs.Forms.{in_form, object_in, is_object, is_wrong, is_given, is_absent, given_or, inside, listed, present_member, either_spelling, field_of, text_of, duration_of, object_of, objects_of, enumeration_of}
use Rattle.ev_tree.specs.Rules.{judged, is_name}
use Rattle.ev_tree.specs.Broken.{none_broken, either_broken, broken_where, least_of}
use Rattle.ev_tree.specs.Spans.{is_not_positive}
use Rattle.ev_tree.specs.Floats.{body_text_of}
use Rattle.ev_tree.specs.Sources.{source_broken, any_source_broken, source_broken_in, source_is_limited}
use Rattle.ev_tree.proofs.Unions.{least_none}
use Rattle.ev_cluster_json.specs.declared.parts.TheConstants.{STATIC, LOGICAL_DNS, EDS}
use Rattle.ev_cluster_json.specs.Assignments.{rows_of}
use Rattle.ev_cluster_json.specs.Clusters.{name_of, type_of, is_static, is_eds, has_custom_type, is_in_cluster, is_by_eds, holds_hosts, asks_hosts, eds_of, eds_source_of, service_name_of, service_with, service_of, load_assignment_of, is_checked, cluster_own_broken, eds_broken, load_assignment_broken, cluster_broken, discovery_of, cluster_of, cluster_reading}
use Rattle.ev_cluster_json.specs.declared.sockets.ClusterSecrets.{ClusterSecrets}
use Rattle.ev_cluster_json.specs.Sockets.{matches_of, match_secrets, given_where, cluster_secrets}
use Rattle.ev_secret_json.specs.declared.referring.References.{References}
use Rattle.ev_secret_json.specs.References.{joined, each_joined, wrong_form}
use Rattle.ev_secret_json.specs.TransportSockets.{socket_secrets, transport_secrets}
use Rattle.ev_cluster_json.proofs.RowsMade.{left_false, right_false, not_false}
use Rattle.ev_expand.specs.Editing.{without, with_value}
use Rattle.ev_expand.specs.Guarding.{waiting_config, stripped_body, waiting_body}
use Rattle.ev_expand.specs.Waiting.{waiting_cluster}
use Rattle.ev_expand.proofs.FieldLemmas.{IsOther, get_with, get_with_other, get_without, field_with, field_with_other, field_without_other, text_by, duration_by, object_by, objects_by, object_with, object_without}

-- ---- fields that stay

-- a field that a body keeps when it waits
pub record IsKept (field : List ℕ) : Type 0 where
  pub config : IsOther field (codes "edsClusterConfig")
  pub type : IsOther field (codes "type")
  pub other_config : IsOther field (codes "eds_cluster_config")
  pub assignment : IsOther field (codes "load_assignment")
  pub other_assignment : IsOther field (codes "loadAssignment")

field_kept : (field name : List ℕ) (body : Data) → IsKept field → field_of field (waiting_body name body) ≡ field_of field body
field_kept field name body is =
    field_with_other field (codes "edsClusterConfig") _ _ is.config ∙ field_with_other field (codes "type") _ _ is.type
    ∙ field_without_other field (codes "eds_cluster_config") _ is.other_config ∙ field_without_other field (codes "load_assignment") _ is.assignment
    ∙ field_without_other field (codes "loadAssignment") _ is.other_assignment

pub keeps_name : IsKept (codes "name")
unfolding camel_of
keeps_name = record {
  config = record { plain = refl; camel = refl };
  type = record { plain = refl; camel = refl };
  other_config = record { plain = refl; camel = refl };
  assignment = record { plain = refl; camel = refl };
  other_assignment = record { plain = refl; camel = refl };
}

pub keeps_own_type : IsKept (codes "@type")
unfolding camel_of
keeps_own_type = record {
  config = record { plain = refl; camel = refl };
  type = record { plain = refl; camel = refl };
  other_config = record { plain = refl; camel = refl };
  assignment = record { plain = refl; camel = refl };
  other_assignment = record { plain = refl; camel = refl };
}

keeps_cluster_type : IsKept (codes "cluster_type")
unfolding camel_of
keeps_cluster_type = record {
  config = record { plain = refl; camel = refl };
  type = record { plain = refl; camel = refl };
  other_config = record { plain = refl; camel = refl };
  assignment = record { plain = refl; camel = refl };
  other_assignment = record { plain = refl; camel = refl };
}

keeps_connect_timeout : IsKept (codes "connect_timeout")
unfolding camel_of
keeps_connect_timeout = record {
  config = record { plain = refl; camel = refl };
  type = record { plain = refl; camel = refl };
  other_config = record { plain = refl; camel = refl };
  assignment = record { plain = refl; camel = refl };
  other_assignment = record { plain = refl; camel = refl };
}

keeps_health_checks : IsKept (codes "health_checks")
unfolding camel_of
keeps_health_checks = record {
  config = record { plain = refl; camel = refl };
  type = record { plain = refl; camel = refl };
  other_config = record { plain = refl; camel = refl };
  assignment = record { plain = refl; camel = refl };
  other_assignment = record { plain = refl; camel = refl };
}

keeps_socket : IsKept (codes "transport_socket")
unfolding camel_of
keeps_socket = record {
  config = record { plain = refl; camel = refl };
  type = record { plain = refl; camel = refl };
  other_config = record { plain = refl; camel = refl };
  assignment = record { plain = refl; camel = refl };
  other_assignment = record { plain = refl; camel = refl };
}

keeps_matches : IsKept (codes "transport_socket_matches")
unfolding camel_of
keeps_matches = record {
  config = record { plain = refl; camel = refl };
  type = record { plain = refl; camel = refl };
  other_config = record { plain = refl; camel = refl };
  assignment = record { plain = refl; camel = refl };
  other_assignment = record { plain = refl; camel = refl };
}

-- another tree has the same fields of those that a body keeps
pub record KeepsFields (tree made : Data) : Type 0 where
  pub object : is_object made ≡ is_object tree
  pub fields : (field : List ℕ) → IsKept field → field_of field made ≡ field_of field tree

pub waiting_keeps : (name : List ℕ) (body : Data) → KeepsFields body (waiting_body name body)
waiting_keeps name body = record {
  object =
      object_with (codes "edsClusterConfig") _ _ ∙ object_with (codes "type") _ _ ∙ object_without (codes "eds_cluster_config") _
      ∙ object_without (codes "load_assignment") _ ∙ object_without (codes "loadAssignment") _;
  fields = λ field is. field_kept field name body is;
}

-- with another type
pub typed_keeps : (type body : Data) → KeepsFields body (with_value (codes "type") type body)
typed_keeps type body = record {
  object = object_with (codes "type") type body;
  fields = λ field is. field_with_other field (codes "type") type body is.type;
}

-- both of one tree
pub keeps_both : (tree a b : Data) → KeepsFields tree a → KeepsFields tree b → KeepsFields a b
keeps_both tree a b first second =
    record { object = second.object ∙ sym first.object; fields = λ field is. second.fields field is ∙ sym (first.fields field is) }

kept_name : (tree made : Data) → KeepsFields tree made → name_of made ≡ name_of tree
unfolding name_of
kept_name tree made keeps = ap (given_or []) (text_by (codes "name") tree made (keeps.fields (codes "name") keeps_name))

pub kept_custom : (tree made : Data) → KeepsFields tree made → has_custom_type made ≡ has_custom_type tree
kept_custom tree made keeps = ap is_given (object_by (codes "cluster_type") tree made (keeps.fields (codes "cluster_type") keeps_cluster_type))

kept_checked : (tree made : Data) → KeepsFields tree made → is_checked made ≡ is_checked tree
unfolding is_checked
kept_checked tree made keeps =
    ap (λ (found : Found (List Data)). not (length (listed found) == 0)) (objects_by (codes "health_checks") tree made (keeps.fields (codes "health_checks") keeps_health_checks))

kept_secrets : (profile : Profile) (tree made : Data) → KeepsFields tree made → cluster_secrets profile made ≡ cluster_secrets profile tree
unfolding cluster_secrets transport_secrets match_secrets matches_of
kept_secrets Own tree made keeps = refl
kept_secrets Envoy tree made keeps =
    let socket : object_of (codes "transport_socket") made ≡ object_of (codes "transport_socket") tree =
    object_by (codes "transport_socket") tree made (keeps.fields (codes "transport_socket") keeps_socket) in
    let matches : objects_of (codes "transport_socket_matches") made ≡ objects_of (codes "transport_socket_matches") tree =
    objects_by (codes "transport_socket_matches") tree made (keeps.fields (codes "transport_socket_matches") keeps_matches) in
    λ i. secrets_by (socket i) (matches i)
  where
    secrets_by : Found Data → Found (List Data) → ClusterSecrets
    secrets_by socket matches =
        let own : References = joined (socket_secrets (inside socket)) (wrong_form (is_wrong socket)) in
        let others : References = each_joined transport_secrets (listed matches) in
        record {
          own = own.list;
          by_match = given_where (not (length (listed matches) == 0)) others.list;
          broken = either_broken own.broken (either_broken others.broken (record none_broken { v6 = is_wrong matches }));
        }

-- ---- a body that waits

waits_stripped : (body : Data) → is_object body ≡ true → is_object (stripped_body body) ≡ true
waits_stripped body is =
    object_without (codes "eds_cluster_config") _ ∙ object_without (codes "load_assignment") _ ∙ object_without (codes "loadAssignment") _ ∙ is

typed : (body : Data) → is_object body ≡ true → is_object (with_value (codes "type") (string (codes "EDS")) (stripped_body body)) ≡ true
typed body is = object_with (codes "type") _ _ ∙ waits_stripped body is

other_type : IsOther (codes "type") (codes "edsClusterConfig")
unfolding camel_of
other_type = record { plain = refl; camel = refl }

one_spelling : bytes_eq (camel_of (codes "type")) (codes "type") ≡ true
unfolding camel_of
one_spelling = refl

type_given : (name : List ℕ) (body : Data) → is_object body ≡ true → field_of (codes "type") (waiting_body name body) ≡ Given (string (codes "EDS"))
type_given name body is =
    field_with_other (codes "type") (codes "edsClusterConfig") _ _ other_type
    ∙ field_with (codes "type") (string (codes "EDS")) (stripped_body body) one_spelling (waits_stripped body is)

type_read : (tree : Data) → field_of (codes "type") tree ≡ Given (string (codes "EDS")) → enumeration_of (codes "type") DiscoveryTable tree ≡ Given EDS
unfolding enumeration_of enum_in named_in
type_read tree is = ap (in_form (enum_in DiscoveryTable)) is

config_given : (name : List ℕ) (body : Data) → is_object body ≡ true → field_of (codes "eds_cluster_config") (waiting_body name body) ≡ Given (waiting_config name)
unfolding field_of camel_of
config_given name body is = λ i. either_spelling (present_member (none i)) (present_member (some i))
  where
    typed_body : Data
    typed_body = with_value (codes "type") (string (codes "EDS")) (stripped_body body)

    none : get (codes "eds_cluster_config") (waiting_body name body) ≡ None
    none =
        get_with_other (codes "eds_cluster_config") (codes "edsClusterConfig") (waiting_config name) typed_body refl
        ∙ get_with_other (codes "eds_cluster_config") (codes "type") (string (codes "EDS")) (stripped_body body) refl
        ∙ get_without (codes "eds_cluster_config") (without (codes "load_assignment") (without (codes "loadAssignment") body))

    some : get (codes "edsClusterConfig") (waiting_body name body) ≡ Some (waiting_config name)
    some = get_with (codes "edsClusterConfig") (waiting_config name) typed_body (typed body is)

source : Data
source = object (put (codes "ads") (object no_members) (put (codes "initialFetchTimeout") (string (codes "0s")) no_members))

source_right : (profile : Profile) → source_broken_in profile source ≡ none_broken
unfolding source source_broken any_source_broken object_of duration_of field_of camel_of span_of before_unit signed_span seconds_span whole_span
source_right Own = refl
source_right Envoy = refl

source_unlimited : source_is_limited source ≡ false
unfolding source source_is_limited object_of duration_of field_of camel_of span_of before_unit signed_span seconds_span whole_span
source_unlimited = refl

config_source : (name : List ℕ) → object_of (codes "eds_config") (waiting_config name) ≡ Given source
unfolding source object_of field_of camel_of
config_source name = refl

config_service : (name : List ℕ) → text_of (codes "service_name") (waiting_config name) ≡ Given name
unfolding text_of field_of camel_of
config_service name = refl

-- ---- what it is read as

waits_type : (name : List ℕ) (body : Data) → is_object body ≡ true → type_of (waiting_body name body) ≡ EDS
unfolding type_of
waits_type name body is = ap (given_or STATIC) (type_read (waiting_body name body) (type_given name body is))

waits_config : (name : List ℕ) (body : Data) → is_object body ≡ true → object_of (codes "eds_cluster_config") (waiting_body name body) ≡ Given (waiting_config name)
unfolding object_of
waits_config name body is = ap (in_form object_in) (config_given name body is)

waits_eds : (name : List ℕ) (body : Data) → is_object body ≡ true → eds_of (waiting_body name body) ≡ waiting_config name
unfolding eds_of
waits_eds name body is = ap inside (waits_config name body is)

waits_source : (name : List ℕ) (body : Data) → is_object body ≡ true → eds_source_of (waiting_body name body) ≡ source
unfolding eds_source_of
waits_source name body is =
    ap (λ (eds : Data). inside (object_of (codes "eds_config") eds)) (waits_eds name body is) ∙ ap inside (config_source name)

waits_service : (name : List ℕ) (body : Data) → is_object body ≡ true → service_name_of (waiting_body name body) ≡ name
unfolding service_name_of
waits_service name body is =
    ap (λ (eds : Data). given_or [] (text_of (codes "service_name") eds)) (waits_eds name body is) ∙ ap (given_or []) (config_service name)

some_bytes : (own name : List ℕ) → 1 ≤ length name → service_with own name ≡ name
some_bytes own [] some = absurd (omega arith)
some_bytes own (x ∷ xs) some = ap (λ (b : Bool). cond b own (x ∷ xs)) (ne_eqb (length (x ∷ xs)) 0 (λ e. omega arith))

-- a cluster of the type EDS without a custom type has its hosts by EDS
not_held : (profile : Profile) (custom : Bool) → custom ≡ false → is_in_cluster profile custom EDS ≡ false
not_held Own custom none = refl
not_held Envoy custom none = ap (λ (c : Bool). not c && nat_le EDS LOGICAL_DNS) none

by_eds : (profile : Profile) (custom : Bool) → custom ≡ false → is_by_eds profile custom EDS ≡ true
by_eds Own custom none = refl
by_eds Envoy custom none = ap (λ (c : Bool). not c && (EDS == EDS)) none

waits_held : (profile : Profile) (name : List ℕ) (body : Data) → is_object body ≡ true → has_custom_type (waiting_body name body) ≡ false
    → holds_hosts profile (waiting_body name body) ≡ false
waits_held profile name body is none =
    ap (λ (type : ℕ). is_in_cluster profile (has_custom_type (waiting_body name body)) type) (waits_type name body is)
    ∙ not_held profile (has_custom_type (waiting_body name body)) none

waits_asked : (profile : Profile) (name : List ℕ) (body : Data) → is_object body ≡ true → has_custom_type (waiting_body name body) ≡ false
    → asks_hosts profile (waiting_body name body) ≡ true
waits_asked profile name body is none =
    ap (λ (type : ℕ). is_by_eds profile (has_custom_type (waiting_body name body)) type) (waits_type name body is)
    ∙ by_eds profile (has_custom_type (waiting_body name body)) none

waits_discovery : (profile : Profile) (name : List ℕ) (body : Data) → is_object body ≡ true → has_custom_type (waiting_body name body) ≡ false → 1 ≤ length name
    → discovery_of profile (waiting_body name body) ≡ Eds name false (is_envoy profile)
unfolding discovery_of source_is_limited
waits_discovery profile name body is none some =
    let made : Data = waiting_body name body in
    (λ i. cond (waits_held profile name body is none i) (Static (rows_of profile (load_assignment_of made)))
    (cond (waits_asked profile name body is none i) (Eds (service_of made) (source_is_limited (eds_source_of made)) (is_envoy profile)) Elsewhere))
    ∙ (λ i. Eds (service_with (name_of made) (waits_service name body is i)) (source_is_limited (waits_source name body is i)) (is_envoy profile))
    ∙ (λ i. Eds (some_bytes (name_of made) name some i) (source_unlimited i) (is_envoy profile))

waits_cluster : (profile : Profile) (name : List ℕ) (body tree : Data) → is_object body ≡ true → has_custom_type (waiting_body name body) ≡ false
    → KeepsFields tree (waiting_body name body) → 1 ≤ length name
    → cluster_of profile (waiting_body name body) ≡ waiting_cluster profile name body (cluster_of profile tree)
waits_cluster profile name body tree is none keeps some = λ i. record {
  name = kept_name tree (waiting_body name body) keeps i;
  discovery = waits_discovery profile name body is none some i;
  checked = kept_checked tree (waiting_body name body) keeps i;
  secrets = (kept_secrets profile body (waiting_body name body) (waiting_keeps name body) i).own;
  secrets_by_match = (kept_secrets profile body (waiting_body name body) (waiting_keeps name body) i).by_match;
  body_text = body_text_of profile (waiting_body name body);
}

-- ---- what it breaks

-- the fields of a cluster that it keeps break no rule
pub record HasSoundFields (tree : Data) : Type 0 where
  pub named : is_wrong (text_of (codes "name") tree) ≡ false
  pub name : (not (is_wrong (text_of (codes "name") tree)) && not (is_name (name_of tree))) ≡ false
  pub custom : is_wrong (object_of (codes "cluster_type") tree) ≡ false
  pub none_custom : has_custom_type tree ≡ false
  pub timeout : is_wrong (duration_of (codes "connect_timeout") tree) ≡ false
  pub positive : is_not_positive (duration_of (codes "connect_timeout") tree) ≡ false
  pub checks : is_wrong (objects_of (codes "health_checks") tree) ≡ false

clear_sound : (profile : Profile) (tree : Data) → cluster_broken profile tree ≡ none_broken → has_custom_type tree ≡ false → HasSoundFields tree
unfolding cluster_broken cluster_own_broken
clear_sound profile tree clear none =
    let v6 = left_false _ _ (ap (λ (b : BrokenRules). b.v6) clear) in
    record {
      named = left_false _ _ (left_false _ _ (left_false _ _ (left_false _ _ v6)));
      name = left_false _ _ (ap (λ (b : BrokenRules). b.v3) clear);
      custom = right_false _ _ (left_false _ _ (left_false _ _ v6));
      none_custom = none;
      timeout = right_false _ _ (left_false _ _ v6);
      positive = left_false _ _ (ap (λ (b : BrokenRules). b.v11) clear);
      checks = right_false _ _ v6;
    }

-- where two parts together break nothing the second breaks nothing
none_right : (a b : BrokenRules) → either_broken a b ≡ none_broken → b ≡ none_broken
none_right a b none = λ i. record {
  v1 = right_false a.v1 b.v1 (ap (λ (r : BrokenRules). r.v1) none) i;
  v2 = right_false a.v2 b.v2 (ap (λ (r : BrokenRules). r.v2) none) i;
  v3 = right_false a.v3 b.v3 (ap (λ (r : BrokenRules). r.v3) none) i;
  v6 = right_false a.v6 b.v6 (ap (λ (r : BrokenRules). r.v6) none) i;
  v7 = right_false a.v7 b.v7 (ap (λ (r : BrokenRules). r.v7) none) i;
  v8 = right_false a.v8 b.v8 (ap (λ (r : BrokenRules). r.v8) none) i;
  v9 = right_false a.v9 b.v9 (ap (λ (r : BrokenRules). r.v9) none) i;
  v10 = right_false a.v10 b.v10 (ap (λ (r : BrokenRules). r.v10) none) i;
  v11 = right_false a.v11 b.v11 (ap (λ (r : BrokenRules). r.v11) none) i;
  v12 = right_false a.v12 b.v12 (ap (λ (r : BrokenRules). r.v12) none) i;
  v13 = right_false a.v13 b.v13 (ap (λ (r : BrokenRules). r.v13) none) i;
  v14 = right_false a.v14 b.v14 (ap (λ (r : BrokenRules). r.v14) none) i;
  v16 = right_false a.v16 b.v16 (ap (λ (r : BrokenRules). r.v16) none) i;
  v17 = right_false a.v17 b.v17 (ap (λ (r : BrokenRules). r.v17) none) i;
  v18 = right_false a.v18 b.v18 (ap (λ (r : BrokenRules). r.v18) none) i;
  v19 = right_false a.v19 b.v19 (ap (λ (r : BrokenRules). r.v19) none) i;
  v20 = right_false a.v20 b.v20 (ap (λ (r : BrokenRules). r.v20) none) i;
  v21 = right_false a.v21 b.v21 (ap (λ (r : BrokenRules). r.v21) none) i;
  v22 = right_false a.v22 b.v22 (ap (λ (r : BrokenRules). r.v22) none) i;
  v23 = right_false a.v23 b.v23 (ap (λ (r : BrokenRules). r.v23) none) i;
  v24 = right_false a.v24 b.v24 (ap (λ (r : BrokenRules). r.v24) none) i;
  v25 = right_false a.v25 b.v25 (ap (λ (r : BrokenRules). r.v25) none) i;
  v26 = right_false a.v26 b.v26 (ap (λ (r : BrokenRules). r.v26) none) i;
  v27 = right_false a.v27 b.v27 (ap (λ (r : BrokenRules). r.v27) none) i;
  v28 = right_false a.v28 b.v28 (ap (λ (r : BrokenRules). r.v28) none) i;
  v29 = right_false a.v29 b.v29 (ap (λ (r : BrokenRules). r.v29) none) i;
}

clear_secrets : (profile : Profile) (tree : Data) → cluster_broken profile tree ≡ none_broken → (cluster_secrets profile tree).broken ≡ none_broken
unfolding cluster_broken
clear_secrets profile tree clear =
    none_right (broken_where (holds_hosts profile tree) (load_assignment_broken profile tree)) (cluster_secrets profile tree).broken
    (none_right (eds_broken profile (asks_hosts profile tree) tree) _ (none_right (cluster_own_broken profile tree) _ clear))

-- nothing but a name that is too long for one
abbrev pub broken_by_length : List ℕ → BrokenRules
broken_by_length name = record none_broken { v2 = nat_lt MAX_NAME_BYTES (length name) }

wrong_type : (name : List ℕ) (body : Data) → is_object body ≡ true → is_wrong (enumeration_of (codes "type") DiscoveryTable (waiting_body name body)) ≡ false
wrong_type name body is = ap is_wrong (type_read (waiting_body name body) (type_given name body is))

-- the own profile's rule on types isn't broken, and the other has none
types_right : (profile : Profile) → (not (is_envoy profile) && false) ≡ false
types_right Own = refl
types_right Envoy = refl

waits_own : (profile : Profile) (name : List ℕ) (body tree : Data) → is_object body ≡ true → KeepsFields tree (waiting_body name body) → HasSoundFields tree
    → cluster_own_broken profile (waiting_body name body) ≡ none_broken
unfolding cluster_own_broken
waits_own profile name body tree is keeps sound =
    let made : Data = waiting_body name body in
    let text : text_of (codes "name") made ≡ text_of (codes "name") tree = text_by (codes "name") tree made (keeps.fields (codes "name") keeps_name) in
    let custom : object_of (codes "cluster_type") made ≡ object_of (codes "cluster_type") tree =
    object_by (codes "cluster_type") tree made (keeps.fields (codes "cluster_type") keeps_cluster_type) in
    let timeout : duration_of (codes "connect_timeout") made ≡ duration_of (codes "connect_timeout") tree =
    duration_by (codes "connect_timeout") tree made (keeps.fields (codes "connect_timeout") keeps_connect_timeout) in
    let checks : objects_of (codes "health_checks") made ≡ objects_of (codes "health_checks") tree =
    objects_by (codes "health_checks") tree made (keeps.fields (codes "health_checks") keeps_health_checks) in
    let named : is_wrong (text_of (codes "name") made) ≡ false = ap is_wrong text ∙ sound.named in
    let own : (not (is_wrong (text_of (codes "name") made)) && not (is_name (name_of made))) ≡ false =
    (λ i. not (is_wrong (text i)) && not (is_name (kept_name tree made keeps i))) ∙ sound.name in
    let none_custom : has_custom_type made ≡ false = ap is_given custom ∙ sound.none_custom in
    let types : (not (is_envoy profile) && (not (type_of made == STATIC || type_of made == EDS) || has_custom_type made)) ≡ false =
    (λ i. not (is_envoy profile) && (not (waits_type name body is i == STATIC || waits_type name body is i == EDS) || none_custom i)) ∙ types_right profile in
    let custom_right : is_wrong (object_of (codes "cluster_type") made) ≡ false = ap is_wrong custom ∙ sound.custom in
    let timeout_right : is_wrong (duration_of (codes "connect_timeout") made) ≡ false = ap is_wrong timeout ∙ sound.timeout in
    let positive : is_not_positive (duration_of (codes "connect_timeout") made) ≡ false = ap is_not_positive timeout ∙ sound.positive in
    let checks_right : is_wrong (objects_of (codes "health_checks") made) ≡ false = ap is_wrong checks ∙ sound.checks in
    λ i. record none_broken {
      v3 = own i;
      v6 = named i || wrong_type name body is i || custom_right i || timeout_right i || checks_right i;
      v7 = types i;
      v11 = positive i;
    }

waits_broken : (profile : Profile) (name : List ℕ) (body : Data) → is_object body ≡ true → eds_broken profile true (waiting_body name body) ≡ broken_by_length name
unfolding eds_broken
waits_broken profile name body is =
    let made : Data = waiting_body name body in
    let config = waits_config name body is in
    let service : text_of (codes "service_name") (eds_of made) ≡ Given name = ap (text_of (codes "service_name")) (waits_eds name body is) ∙ config_service name in
    let eds : object_of (codes "eds_config") (eds_of made) ≡ Given source = ap (object_of (codes "eds_config")) (waits_eds name body is) ∙ config_source name in
    (λ i. either_broken (broken_where (is_given (config i)) (source_broken_in profile (waits_source name body is i))) (record none_broken {
      v2 = nat_lt MAX_NAME_BYTES (length (waits_service name body is i));
      v6 = is_wrong (config i) || is_wrong (eds i) || is_wrong (service i);
      v8 = is_absent (config i);
      v9 = false;
    }))
    ∙ (λ i. either_broken (source_right profile i) (broken_by_length name))

waits_rules : (profile : Profile) (name : List ℕ) (body tree : Data) → is_object body ≡ true → KeepsFields tree (waiting_body name body) → HasSoundFields tree
    → (cluster_secrets profile tree).broken ≡ none_broken → cluster_broken profile (waiting_body name body) ≡ broken_by_length name
unfolding cluster_broken
waits_rules profile name body tree is keeps sound clear =
    let made : Data = waiting_body name body in
    let none : has_custom_type made ≡ false = kept_custom tree made keeps ∙ sound.none_custom in
    let secrets : (cluster_secrets profile made).broken ≡ none_broken = ap (λ (s : ClusterSecrets). s.broken) (kept_secrets profile tree made keeps) ∙ clear in
    (λ i. either_broken (waits_own profile name body tree is keeps sound i)
    (either_broken (eds_broken profile (waits_asked profile name body is none i) made)
    (either_broken (broken_where (waits_held profile name body is none i) (load_assignment_broken profile made)) (secrets i))))
    ∙ (λ i. either_broken none_broken (either_broken (waits_broken profile name body is i) none_broken))
    ∙ or_nothing (nat_lt MAX_NAME_BYTES (length name))
  where
    or_nothing : (long : Bool) → either_broken none_broken (either_broken (record none_broken { v2 = long }) none_broken) ≡ record none_broken { v2 = long }
    or_nothing true = refl
    or_nothing false = refl

judged_ok : {A : Type 0} (found : Option ℕ) (value other : A) → judged found value ≡ Ok other → (found ≡ None) × (value ≡ other)
judged_ok None value other h = (refl, cc)
judged_ok (Some rule) value other h = absurd (cc)

-- by this project's own rules a cluster has the type STATIC or EDS, and no custom type
pub own_types : (tree : Data) (cluster : Cluster) → cluster_reading Own tree ≡ Ok cluster → ((is_static tree || is_eds tree) ≡ true) × (has_custom_type tree ≡ false)
unfolding cluster_broken cluster_own_broken
own_types tree cluster reads =
    let parts = judged_ok (least_of (cluster_broken Own tree)) (cluster_of Own tree) cluster reads in
    let clear : cluster_broken Own tree ≡ none_broken = least_none (cluster_broken Own tree) parts.0 in
    let v7 : (not (is_static tree || is_eds tree) || has_custom_type tree) ≡ false = left_false _ _ (ap (λ (b : BrokenRules). b.v7) clear) in
    (not_false (is_static tree || is_eds tree) (left_false _ _ v7), right_false _ _ v7)

-- a body of the same fields as one that reads as a cluster reads as the cluster that waits
pub waits_read : (profile : Profile) (name : List ℕ) (body tree : Data) (cluster : Cluster) → is_object body ≡ true → KeepsFields tree (waiting_body name body)
    → has_custom_type tree ≡ false → 1 ≤ length name → nat_lt MAX_NAME_BYTES (length name) ≡ false → cluster_reading profile tree ≡ Ok cluster
    → cluster_reading profile (waiting_body name body) ≡ Ok (waiting_cluster profile name body cluster)
waits_read profile name body tree cluster is keeps none some short reads =
    let parts = judged_ok (least_of (cluster_broken profile tree)) (cluster_of profile tree) cluster reads in
    let clear : cluster_broken profile tree ≡ none_broken = least_none (cluster_broken profile tree) parts.0 in
    let sound : HasSoundFields tree = clear_sound profile tree clear none in
    let custom : has_custom_type (waiting_body name body) ≡ false = kept_custom tree (waiting_body name body) keeps ∙ none in
    (λ i. judged (least_of (waits_rules profile name body tree is keeps sound (clear_secrets profile tree clear) i)) (waits_cluster profile name body tree is custom keeps some i))
    ∙ (λ i. judged (least_of (record none_broken { v2 = short i })) (waiting_cluster profile name body (parts.1 i)))
