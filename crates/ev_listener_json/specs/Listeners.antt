-- Listeners (`envoy.config.listener.v3.Listener`), and the rules that they break,
-- by this project's own rules and as Envoy reads them.
use Rattle.std.specs.Prelude.{ℕ, ◌||◌, ◌&&◌, ◌==◌, List, [], ◌∷◌, ◌++◌, length, map, Bool, false, not, if◌then◌else◌, None, Result, unwrap_or, codes}
use Rattle.std.specs.Str.{bytes_eq}
use Rattle.serde_json.specs.Data.{Data}
use Rattle.ev_types.specs.declared.events.Profile.{Profile}
use Rattle.ev_types.specs.declared.events.Profile.TheVariants.{Own, Envoy}
use Rattle.ev_types.specs.declared.listeners.Listener.{Listener}
use Rattle.ev_types.specs.declared.listeners.Serve.{Serve}
use Rattle.ev_types.specs.declared.listeners.Serve.TheVariants.{Inline}
use Rattle.ev_tree.specs.declared.broken.BrokenRules.{BrokenRules}
use Rattle.ev_tree.specs.declared.outcome.Found.{Found}
use Rattle.ev_tree.specs.declared.outcome.Found.TheVariants.{Absent, Wrong, Given}
use Rattle.ev_tree.specs.declared.tables.EnumTable.TheVariants.{Protocol}
use Rattle.ev_tree.specs.Floats.{body_text_of}
use Rattle.ev_tree.specs.Forms.{is_wrong, is_given, is_absent, given_or, text_of, object_of, objects_of, enumeration_of}
use Rattle.ev_tree.specs.Addresses.{socket_of, address_text_of, port_of, address_broken, any_text_of, any_port_of, any_address_broken, port_unless}
use Rattle.ev_tree.specs.Rules.{judged, is_name}
use Rattle.ev_tree.specs.Broken.{none_broken, either_broken, any_broken, least_of}
use Rattle.ev_listener_json.specs.Parts.{first_of}
use Rattle.ev_listener_json.specs.Filters.{chain_serve, chain_broken}
use Rattle.ev_listener_json.specs.Frames.{in_place_text_of}
use Rattle.ev_listener_json.specs.ListenerFilters.{hands_over, restores, redirection_broken, listener_extensions}
use Rattle.ev_listener_json.specs.Chains.{chains_of, plain_chain, has_api, envoy_chains_of, envoy_default_of, envoy_chains_broken}

-- ---- the parts of a listener

unfoldable pub listener_name : Data → List ℕ
listener_name tree = given_or [] (text_of (codes "name") tree)

abbrev pub is_udp : Found ℕ → Bool
is_udp Absent = false
is_udp Wrong = false
is_udp (Given protocol) = protocol == 1

-- what the chain serves. One without a filter that serves breaks V16 or V17; it represents a table with no hosts.
unfoldable pub serve_of : Data → Serve
serve_of tree = unwrap_or (first_of (map chain_serve (chains_of tree))) (Inline (record { hosts = [] }))

-- ---- by this project's own rules

-- What a listener breaks: what one of its chains breaks, and what it breaks itself.
-- V3, in the one case that shows in the listener alone: a name that is no name differs from each outer name; one of a
-- wrong form is V6 alone. V6: the default chain is only looked for. V14: no usable address, or one for datagrams.
-- V16: not exactly one chain, or a default chain.
unfoldable pub own_listener_broken : Data → BrokenRules
own_listener_broken tree = either_broken (any_broken chain_broken (chains_of tree)) (record none_broken {
  v3 = not (is_wrong (text_of (codes "name") tree)) && not (is_name (listener_name tree));
  v6 =
      is_wrong (text_of (codes "name") tree)
      || (address_broken tree).v6
      || is_wrong (enumeration_of (codes "protocol") Protocol (socket_of tree))
      || is_wrong (objects_of (codes "filter_chains") tree)
      || is_wrong (object_of (codes "default_filter_chain") tree);
  v14 = (address_broken tree).v12 || is_udp (enumeration_of (codes "protocol") Protocol (socket_of tree));
  v16 = not (length (chains_of tree) == 1) || is_given (object_of (codes "default_filter_chain") tree);
})

abbrev pub own_listener_of : Data → Listener
own_listener_of tree = record {
  name = listener_name tree;
  address = record { host = record { address = address_text_of tree; port = port_of tree }; udp = false };
  takes_every_address = false;
  restores = false;
  hands_over = false;
  filter_chains = plain_chain (serve_of tree) ∷ [];
  default_filter_chain = None;
  extensions = [];
  frame_text = [];
  body_text = body_text_of Own tree;
}

-- ---- as Envoy reads it

-- no address is given; one that is empty is given
abbrev pub lacks_address : Data → Bool
lacks_address tree = is_absent (object_of (codes "address") tree)

-- the text of an address by the listener's own name: of an API listener, else of one inside Envoy, or none
abbrev pub named_with : Bool → Bool → List ℕ → List ℕ
named_with api internal name =
    if api then codes "api:" ++ name
    else if internal then codes "internal:" ++ name
    else []

unfoldable pub named_address : Data → List ℕ
named_address tree =
    named_with (has_api tree) (is_given (object_of (codes "internal_listener") tree)) (listener_name tree)

-- the text of its address, and its port
unfoldable pub listening_text : Data → List ℕ
listening_text tree = if lacks_address tree then named_address tree else any_text_of tree

unfoldable pub listening_port : Data → ℕ
listening_port tree = port_unless (lacks_address tree) (any_port_of tree)

-- the address is unusable: by its text, where it is made of the name, else by its own rules
abbrev pub is_unusable : Bool → List ℕ → Bool → Bool
is_unusable by_name text broken = if by_name then not (is_name text) else broken

abbrev pub has_bad_address : Data → Bool
has_bad_address tree = is_unusable (lacks_address tree) (listening_text tree) (any_address_broken tree).v12

-- the text of an address that represents every address
abbrev pub is_every_address : List ℕ → Bool
is_every_address text = bytes_eq text (codes "0.0.0.0") || bytes_eq text (codes "::")

-- it listens by UDP
unfoldable pub listens_by_udp : Data → Bool
listens_by_udp tree = is_udp (enumeration_of (codes "protocol") Protocol (socket_of tree))

-- What a listener breaks by itself. V3 and V6 as by the own rules. V14: no usable address.
unfoldable pub envoy_self_broken : Data → BrokenRules
envoy_self_broken tree = record none_broken {
  v3 = not (is_wrong (text_of (codes "name") tree)) && not (is_name (listener_name tree));
  v6 =
      is_wrong (text_of (codes "name") tree)
      || (any_address_broken tree).v6
      || is_wrong (enumeration_of (codes "protocol") Protocol (socket_of tree))
      || is_wrong (object_of (codes "internal_listener") tree);
  v14 = has_bad_address tree;
}

-- what a listener breaks: what its chains break, what its members about redirected connections
-- and the extensions of its listener filters break, and what it breaks itself
abbrev pub envoy_listener_broken : Data → BrokenRules
envoy_listener_broken tree =
    either_broken (envoy_chains_broken (listens_by_udp tree) tree)
    (either_broken (redirection_broken tree) (either_broken (listener_extensions tree).broken (envoy_self_broken tree)))

abbrev pub envoy_listener_of : Data → Listener
envoy_listener_of tree = record {
  name = listener_name tree;
  address = record { host = record { address = listening_text tree; port = listening_port tree }; udp = listens_by_udp tree };
  takes_every_address = is_every_address (listening_text tree);
  restores = restores tree;
  hands_over = hands_over tree;
  filter_chains = envoy_chains_of tree;
  default_filter_chain = envoy_default_of tree;
  extensions = (listener_extensions tree).list;
  frame_text = in_place_text_of tree;
  body_text = body_text_of Envoy tree;
}

-- ---- in a profile

abbrev pub listener_broken : Profile → Data → BrokenRules
listener_broken Own tree = own_listener_broken tree
listener_broken Envoy tree = envoy_listener_broken tree

abbrev pub listener_of : Profile → Data → Listener
listener_of Own tree = own_listener_of tree
listener_of Envoy tree = envoy_listener_of tree

-- what a listener reads as
abbrev pub listener_reading : Profile → Data → Result Listener ℕ
listener_reading profile tree = judged (least_of (listener_broken profile tree)) (listener_of profile tree)
