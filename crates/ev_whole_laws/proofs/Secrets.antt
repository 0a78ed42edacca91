-- Secrets, extensions, and the references to them.
use Rattle.std.proofs.Common.{◌≡◌, ◌∙◌, ap, refl}
use Rattle.std.specs.Prelude.{ℕ, ◌||◌, ◌&&◌, List, [], ◌∷◌, false, map, not, codes}
use Rattle.serde_json.specs.Data.{Data}
use Rattle.ev_types.specs.declared.events.Profile.TheVariants.{Envoy}
use Rattle.ev_tree.specs.Forms.{is_wrong, is_given, given_or, inside, listed, text_of, boolean_of, object_of, objects_of}
use Rattle.ev_tree.specs.Rules.{judged}
use Rattle.ev_tree.specs.Broken.{none_broken, either_broken, broken_where, least_of}
use Rattle.ev_tree.specs.Counts.{exactly_one}
use Rattle.ev_tree.specs.Sources.{source_broken_in, source_is_limited}
use Rattle.ev_tree.specs.Floats.{whole}
use Rattle.ev_secret_json.specs.declared.referring.References.{References}
use Rattle.ev_secret_json.specs.declared.transport_sockets.SocketKind.{SocketKind}
use Rattle.ev_secret_json.specs.declared.transport_sockets.SocketKind.TheVariants.{Upstream, Downstream, QuicUpstream, QuicDownstream, Other}
use Rattle.ev_secret_json.specs.References.{wrong_form, joined, each_joined, reference_with, is_bad_name}
use Rattle.ev_secret_json.specs.SecretConfigs.{secret_source_of, secret_config_broken, config_secret, secret_in, secrets_in}
use Rattle.ev_secret_json.specs.TlsContexts.{common_secrets, upstream_secrets, downstream_secrets}
use Rattle.ev_secret_json.specs.TransportSockets.{socket_in, socket_config_of, socket_kind_of, quic_upstream_secrets, quic_downstream_secrets, config_secrets, plain_secrets, held_secrets, held_by, socket_secrets, transport_secrets}
use Rattle.ev_secret_json.specs.Extensions.{discovery_of, extension_source_of, asks_extension, is_name_judged, goes_by_default, extension_broken, filter_extension}
use Rattle.ev_secret_json.specs.Resources.{secrets_given, secret_broken, secret_reading, typed_config_of, has_type, config_broken, extension_reading}
use Rattle.ev_whole_laws.proofs.Forms.{boolean_of-whole, inside-object, listed-objects, object-is_absent, object-is_given, object-is_wrong, objects-is_wrong, text_of-whole}
use Rattle.ev_whole_laws.proofs.Parts.{any_broken-whole, flat_map-whole}
use Rattle.ev_whole_laws.proofs.Sources.{source_broken_in-whole, source_is_limited-whole}

-- ---- references

-- those of each of some parts
pub each_joined-whole : (found : Data → References) → ((tree : Data) → found (whole tree) ≡ found tree) → (trees : List Data) → each_joined found (map whole trees) ≡ each_joined found trees
each_joined-whole found same trees = λ i. record {
  list = flat_map-whole (λ (part : Data). (found part).list) (λ (part : Data). ap (λ (r : References). r.list) (same part)) trees i;
  broken = any_broken-whole (λ (part : Data). (found part).broken) (λ (part : Data). ap (λ (r : References). r.broken) (same part)) trees i;
}

-- those of an object's part, and whether it has the wrong form
in_object : (found : Data → References) → ((tree : Data) → found (whole tree) ≡ found tree) → (name : List ℕ) (tree : Data)
    → joined (found (inside (object_of name (whole tree)))) (wrong_form (is_wrong (object_of name (whole tree)))) ≡ joined (found (inside (object_of name tree))) (wrong_form (is_wrong (object_of name tree)))
in_object found same name tree = λ i.
    joined ((ap found (inside-object name tree) ∙ same (inside (object_of name tree))) i) (wrong_form (object-is_wrong name tree i))

-- those of the elements of a member, and whether it has the wrong form
pub in_list : (found : Data → References) → ((tree : Data) → found (whole tree) ≡ found tree) → (name : List ℕ) (tree : Data)
    → joined (each_joined found (listed (objects_of name (whole tree)))) (wrong_form (is_wrong (objects_of name (whole tree))))
    ≡ joined (each_joined found (listed (objects_of name tree))) (wrong_form (is_wrong (objects_of name tree)))
in_list found same name tree = λ i.
    joined ((ap (each_joined found) (listed-objects name tree) ∙ each_joined-whole found same (listed (objects_of name tree))) i) (wrong_form (objects-is_wrong name tree i))

-- ---- secrets of TLS contexts

secret_source_of-whole : (config : Data) → secret_source_of (whole config) ≡ whole (secret_source_of config)
unfolding secret_source_of
secret_source_of-whole config = inside-object (codes "sds_config") config

secret_config_broken-whole : (config : Data) → secret_config_broken (whole config) ≡ secret_config_broken config
unfolding secret_config_broken
secret_config_broken-whole config = λ i. either_broken (broken_where (object-is_given (codes "sds_config") config i) ((ap (source_broken_in Envoy) (secret_source_of-whole config) ∙ source_broken_in-whole Envoy (secret_source_of config)) i)) (record none_broken {
  v2 = is_bad_name (not (object-is_absent (codes "sds_config") config i)) (text_of-whole (codes "name") config i);
  v6 = is_wrong (text_of-whole (codes "name") config i) || object-is_wrong (codes "sds_config") config i;
})

config_secret-whole : (config : Data) → config_secret (whole config) ≡ config_secret config
unfolding config_secret
config_secret-whole config = λ i. record {
  list = reference_with (object-is_given (codes "sds_config") config i) (given_or [] (text_of-whole (codes "name") config i))
      ((ap source_is_limited (secret_source_of-whole config) ∙ source_is_limited-whole (secret_source_of config)) i);
  broken = secret_config_broken-whole config i;
}

secret_in-whole : (name : List ℕ) (tree : Data) → secret_in name (whole tree) ≡ secret_in name tree
unfolding secret_in
secret_in-whole name tree = in_object config_secret config_secret-whole name tree

secrets_in-whole : (name : List ℕ) (tree : Data) → secrets_in name (whole tree) ≡ secrets_in name tree
unfolding secrets_in
secrets_in-whole name tree = in_list config_secret config_secret-whole name tree

common_secrets-whole : (context : Data) → common_secrets (whole context) ≡ common_secrets context
unfolding common_secrets
common_secrets-whole context = λ i.
    joined (secrets_in-whole (codes "tls_certificate_sds_secret_configs") context i)
    (joined (secret_in-whole (codes "validation_context_sds_secret_config") context i)
    (in_object (secret_in (codes "validation_context_sds_secret_config")) (secret_in-whole (codes "validation_context_sds_secret_config")) (codes "combined_validation_context") context i))

upstream_secrets-whole : (context : Data) → upstream_secrets (whole context) ≡ upstream_secrets context
unfolding upstream_secrets
upstream_secrets-whole context = in_object common_secrets common_secrets-whole (codes "common_tls_context") context

downstream_secrets-whole : (context : Data) → downstream_secrets (whole context) ≡ downstream_secrets context
unfolding downstream_secrets
downstream_secrets-whole context = λ i. joined (upstream_secrets-whole context i) (secret_in-whole (codes "session_ticket_keys_sds_secret_config") context i)

-- ---- transport sockets

quic_upstream_secrets-whole : (config : Data) → quic_upstream_secrets (whole config) ≡ quic_upstream_secrets config
unfolding quic_upstream_secrets
quic_upstream_secrets-whole config = in_object upstream_secrets upstream_secrets-whole (codes "upstream_tls_context") config

quic_downstream_secrets-whole : (config : Data) → quic_downstream_secrets (whole config) ≡ quic_downstream_secrets config
unfolding quic_downstream_secrets
quic_downstream_secrets-whole config = in_object downstream_secrets downstream_secrets-whole (codes "downstream_tls_context") config

config_secrets-whole : (kind : SocketKind) (config : Data) → config_secrets kind (whole config) ≡ config_secrets kind config
config_secrets-whole Upstream config = upstream_secrets-whole config
config_secrets-whole Downstream config = downstream_secrets-whole config
config_secrets-whole QuicUpstream config = quic_upstream_secrets-whole config
config_secrets-whole QuicDownstream config = quic_downstream_secrets-whole config
config_secrets-whole Other config = refl

socket_config_of-whole : (socket : Data) → socket_config_of (whole socket) ≡ whole (socket_config_of socket)
unfolding socket_config_of
socket_config_of-whole socket = inside-object (codes "typed_config") socket

type_found : (socket : Data) → text_of (codes "@type") (socket_config_of (whole socket)) ≡ text_of (codes "@type") (socket_config_of socket)
type_found socket = ap (text_of (codes "@type")) (socket_config_of-whole socket) ∙ text_of-whole (codes "@type") (socket_config_of socket)

socket_kind_of-whole : (socket : Data) → socket_kind_of (whole socket) ≡ socket_kind_of socket
unfolding socket_kind_of
socket_kind_of-whole socket = λ i. socket_in (type_found socket i)

plain_secrets-whole : (socket : Data) → plain_secrets (whole socket) ≡ plain_secrets socket
unfolding plain_secrets
plain_secrets-whole socket = λ i.
    joined (((λ j. config_secrets (socket_kind_of-whole socket j) (socket_config_of-whole socket j)) ∙ config_secrets-whole (socket_kind_of socket) (socket_config_of socket)) i)
    (wrong_form (object-is_wrong (codes "typed_config") socket i || is_wrong (type_found socket i)))

held_secrets-whole : (config : Data) → held_secrets (whole config) ≡ held_secrets config
unfolding held_secrets
held_secrets-whole config = in_object plain_secrets plain_secrets-whole (codes "transport_socket") config

held_by-whole : (kind : SocketKind) (config : Data) → held_by kind (whole config) ≡ held_by kind config
held_by-whole Upstream config = refl
held_by-whole Downstream config = refl
held_by-whole QuicUpstream config = refl
held_by-whole QuicDownstream config = refl
held_by-whole Other config = held_secrets-whole config

socket_secrets-whole : (socket : Data) → socket_secrets (whole socket) ≡ socket_secrets socket
unfolding socket_secrets
socket_secrets-whole socket = λ i.
    joined (plain_secrets-whole socket i)
    (((λ j. held_by (socket_kind_of-whole socket j) (socket_config_of-whole socket j)) ∙ held_by-whole (socket_kind_of socket) (socket_config_of socket)) i)

pub transport_secrets-whole : (tree : Data) → transport_secrets (whole tree) ≡ transport_secrets tree
unfolding transport_secrets
transport_secrets-whole tree = in_object socket_secrets socket_secrets-whole (codes "transport_socket") tree

-- ---- extensions of filters

discovery_of-whole : (filter : Data) → discovery_of (whole filter) ≡ whole (discovery_of filter)
unfolding discovery_of
discovery_of-whole filter = inside-object (codes "config_discovery") filter

extension_source_of-whole : (filter : Data) → extension_source_of (whole filter) ≡ whole (extension_source_of filter)
unfolding extension_source_of
extension_source_of-whole filter =
    ap (λ (t : Data). inside (object_of (codes "config_source") t)) (discovery_of-whole filter) ∙ inside-object (codes "config_source") (discovery_of filter)

asks_extension-whole : (filter : Data) → asks_extension (whole filter) ≡ asks_extension filter
asks_extension-whole filter = object-is_given (codes "config_discovery") filter

is_name_judged-whole : (filter : Data) → is_name_judged (whole filter) ≡ is_name_judged filter
is_name_judged-whole filter = λ i. not (object-is_absent (codes "config_discovery") filter i)

-- what a member of the discovery is found as
part_wrong : (name : List ℕ) (filter : Data) → is_wrong (object_of name (discovery_of (whole filter))) ≡ is_wrong (object_of name (discovery_of filter))
part_wrong name filter = ap (λ (t : Data). is_wrong (object_of name t)) (discovery_of-whole filter) ∙ object-is_wrong name (discovery_of filter)

part_given : (name : List ℕ) (filter : Data) → is_given (object_of name (discovery_of (whole filter))) ≡ is_given (object_of name (discovery_of filter))
part_given name filter = ap (λ (t : Data). is_given (object_of name t)) (discovery_of-whole filter) ∙ object-is_given name (discovery_of filter)

flag_found : (name : List ℕ) (filter : Data) → boolean_of name (discovery_of (whole filter)) ≡ boolean_of name (discovery_of filter)
flag_found name filter = ap (boolean_of name) (discovery_of-whole filter) ∙ boolean_of-whole name (discovery_of filter)

goes_by_default-whole : (filter : Data) → goes_by_default (whole filter) ≡ goes_by_default filter
unfolding goes_by_default
goes_by_default-whole filter = λ i.
    part_given (codes "default_config") filter i && given_or false (flag_found (codes "apply_default_config_without_warming") filter i)

extension_broken-whole : (filter : Data) → extension_broken (whole filter) ≡ extension_broken filter
unfolding extension_broken
extension_broken-whole filter = λ i. either_broken (broken_where (asks_extension-whole filter i) ((ap (source_broken_in Envoy) (extension_source_of-whole filter) ∙ source_broken_in-whole Envoy (extension_source_of filter)) i)) (record none_broken {
  v2 = is_bad_name (is_name_judged-whole filter i) (text_of-whole (codes "name") filter i);
  v6 =
      object-is_wrong (codes "config_discovery") filter i
      || part_wrong (codes "config_source") filter i
      || part_wrong (codes "default_config") filter i
      || is_wrong (flag_found (codes "apply_default_config_without_warming") filter i)
      || (is_name_judged-whole filter i && is_wrong (text_of-whole (codes "name") filter i));
})

pub filter_extension-whole : (filter : Data) → filter_extension (whole filter) ≡ filter_extension filter
unfolding filter_extension
filter_extension-whole filter = λ i. record {
  list =
      reference_with (asks_extension-whole filter i && not (goes_by_default-whole filter i)) (given_or [] (text_of-whole (codes "name") filter i))
      ((ap source_is_limited (extension_source_of-whole filter) ∙ source_is_limited-whole (extension_source_of filter)) i);
  broken = extension_broken-whole filter i;
}

-- ---- secrets and extensions as resources

secrets_given-whole : (tree : Data) → secrets_given (whole tree) ≡ secrets_given tree
secrets_given-whole tree = λ i.
    object-is_given (codes "tls_certificate") tree i
    ∷ object-is_given (codes "session_ticket_keys") tree i
    ∷ object-is_given (codes "validation_context") tree i
    ∷ object-is_given (codes "generic_secret") tree i
    ∷ []

secret_broken-whole : (tree : Data) → secret_broken (whole tree) ≡ secret_broken tree
unfolding secret_broken
secret_broken-whole tree = λ i. record none_broken {
  v6 =
      is_wrong (text_of-whole (codes "name") tree i)
      || object-is_wrong (codes "tls_certificate") tree i
      || object-is_wrong (codes "session_ticket_keys") tree i
      || object-is_wrong (codes "validation_context") tree i
      || object-is_wrong (codes "generic_secret") tree i;
  v28 = not (exactly_one (secrets_given-whole tree i));
}

pub secret_reading-whole : (tree : Data) → secret_reading (whole tree) ≡ secret_reading tree
secret_reading-whole tree = λ i. judged (least_of (secret_broken-whole tree i)) tt

typed_config_of-whole : (tree : Data) → typed_config_of (whole tree) ≡ whole (typed_config_of tree)
unfolding typed_config_of
typed_config_of-whole tree = inside-object (codes "typed_config") tree

config_type : (tree : Data) → text_of (codes "@type") (typed_config_of (whole tree)) ≡ text_of (codes "@type") (typed_config_of tree)
config_type tree = ap (text_of (codes "@type")) (typed_config_of-whole tree) ∙ text_of-whole (codes "@type") (typed_config_of tree)

config_broken-whole : (tree : Data) → config_broken (whole tree) ≡ config_broken tree
unfolding config_broken
config_broken-whole tree = λ i. record none_broken {
  v6 = is_wrong (text_of-whole (codes "name") tree i) || object-is_wrong (codes "typed_config") tree i || is_wrong (config_type tree i);
  v29 = not (has_type (given_or [] (config_type tree i)));
}

pub extension_reading-whole : (tree : Data) → extension_reading (whole tree) ≡ extension_reading tree
extension_reading-whole tree = λ i. judged (least_of (config_broken-whole tree i)) tt
