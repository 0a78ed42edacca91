-- Transport sockets (`envoy.config.core.v3.TransportSocket`), and the secrets that they refer to: TLS and QUIC by their
-- contexts, and others, as a proxy protocol, by the transport socket that they hold.
use Rattle.std.specs.Prelude.{ℕ, ◌||◌, List, if◌then◌else◌, codes}
use Rattle.std.specs.Str.{bytes_eq}
use Rattle.serde_json.specs.Data.{Data}
use Rattle.ev_tree.specs.declared.outcome.Found.{Found}
use Rattle.ev_tree.specs.declared.outcome.Found.TheVariants.{Absent, Wrong, Given}
use Rattle.ev_tree.specs.Forms.{is_wrong, inside, text_of, object_of}
use Rattle.ev_secret_json.specs.declared.referring.References.{References}
use Rattle.ev_secret_json.specs.declared.transport_sockets.SocketKind.{SocketKind}
use Rattle.ev_secret_json.specs.declared.transport_sockets.SocketKind.TheVariants.{Upstream, Downstream, QuicUpstream, QuicDownstream, Other}
use Rattle.ev_secret_json.specs.References.{none_referred, wrong_form, joined}
use Rattle.ev_secret_json.specs.TlsContexts.{upstream_secrets, downstream_secrets}

-- ---- the kind of a transport socket, and its configuration

-- the kind that a type's name says
abbrev pub named_socket : List ℕ → SocketKind
named_socket name =
    if bytes_eq name (codes "type.googleapis.com/envoy.extensions.transport_sockets.tls.v3.UpstreamTlsContext") then Upstream
    else if bytes_eq name (codes "type.googleapis.com/envoy.extensions.transport_sockets.tls.v3.DownstreamTlsContext") then Downstream
    else if bytes_eq name (codes "type.googleapis.com/envoy.extensions.transport_sockets.quic.v3.QuicUpstreamTransport") then QuicUpstream
    else if bytes_eq name (codes "type.googleapis.com/envoy.extensions.transport_sockets.quic.v3.QuicDownstreamTransport") then QuicDownstream
    else Other

abbrev pub socket_in : Found (List ℕ) → SocketKind
socket_in Absent = Other
socket_in Wrong = Other
socket_in (Given name) = named_socket name

unfoldable pub socket_config_of : Data → Data
socket_config_of socket = inside (object_of (codes "typed_config") socket)

unfoldable pub socket_kind_of : Data → SocketKind
socket_kind_of socket = socket_in (text_of (codes "@type") (socket_config_of socket))

-- ---- the secrets of one, not of one that it holds

unfoldable pub quic_upstream_secrets : Data → References
quic_upstream_secrets config =
    joined (upstream_secrets (inside (object_of (codes "upstream_tls_context") config)))
    (wrong_form (is_wrong (object_of (codes "upstream_tls_context") config)))

unfoldable pub quic_downstream_secrets : Data → References
quic_downstream_secrets config =
    joined (downstream_secrets (inside (object_of (codes "downstream_tls_context") config)))
    (wrong_form (is_wrong (object_of (codes "downstream_tls_context") config)))

-- by its kind and its configuration
abbrev pub config_secrets : SocketKind → Data → References
config_secrets Upstream config = upstream_secrets config
config_secrets Downstream config = downstream_secrets config
config_secrets QuicUpstream config = quic_upstream_secrets config
config_secrets QuicDownstream config = quic_downstream_secrets config
config_secrets Other config = none_referred

unfoldable pub plain_secrets : Data → References
plain_secrets socket =
    joined (config_secrets (socket_kind_of socket) (socket_config_of socket))
    (wrong_form (is_wrong (object_of (codes "typed_config") socket) || is_wrong (text_of (codes "@type") (socket_config_of socket))))

-- ---- and of one that it holds, which isn't looked into for another

unfoldable pub held_secrets : Data → References
held_secrets config =
    joined (plain_secrets (inside (object_of (codes "transport_socket") config)))
    (wrong_form (is_wrong (object_of (codes "transport_socket") config)))

-- TLS and QUIC hold none
abbrev pub held_by : SocketKind → Data → References
held_by Upstream config = none_referred
held_by Downstream config = none_referred
held_by QuicUpstream config = none_referred
held_by QuicDownstream config = none_referred
held_by Other config = held_secrets config

unfoldable pub socket_secrets : Data → References
socket_secrets socket = joined (plain_secrets socket) (held_by (socket_kind_of socket) (socket_config_of socket))

-- the secrets of an object's transport socket: of a cluster, of one of its matches, or of a filter chain
unfoldable pub transport_secrets : Data → References
transport_secrets tree =
    joined (socket_secrets (inside (object_of (codes "transport_socket") tree)))
    (wrong_form (is_wrong (object_of (codes "transport_socket") tree)))
