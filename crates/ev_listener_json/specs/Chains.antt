-- Filter chains of a listener as Envoy reads them: each with its match, a default chain,
-- and the one of an API listener.
use Rattle.std.specs.Prelude.{◌||◌, ◌==◌, ◌&&◌, List, [], ◌∷◌, length, map, Bool, true, false, not, if◌then◌else◌, Option, Some, None, unwrap_or, codes}
use Rattle.serde_json.specs.Data.{Data}
use Rattle.ev_types.specs.FilterChains.{has_collision}
use Rattle.ev_types.specs.declared.events.Profile.TheVariants.{Envoy}
use Rattle.ev_types.specs.declared.filter_chains.FilterChainMatch.{FilterChainMatch}
use Rattle.ev_types.specs.declared.listeners.FilterChain.{FilterChain}
use Rattle.ev_types.specs.declared.listeners.Serve.{Serve}
use Rattle.ev_types.specs.declared.listeners.Serve.TheVariants.{Other as other_serve}
use Rattle.ev_types.specs.declared.references.Reference.{Reference}
use Rattle.ev_tree.specs.declared.broken.BrokenRules.{BrokenRules}
use Rattle.ev_tree.specs.declared.outcome.Found.{Found}
use Rattle.ev_tree.specs.declared.outcome.Found.TheVariants.{Absent, Wrong, Given}
use Rattle.ev_tree.specs.Forms.{is_wrong, is_given, is_absent, inside, listed, field_of, text_of, object_of, objects_of}
use Rattle.ev_tree.specs.Broken.{none_broken, either_broken, any_broken}
use Rattle.ev_tree.specs.Floats.{plain_text}
use Rattle.ev_tree.specs.Counts.{more_than_one}
use Rattle.ev_secret_json.specs.declared.referring.References.{References}
use Rattle.ev_secret_json.specs.TransportSockets.{transport_secrets}
use Rattle.ev_listener_json.specs.declared.filters.FilterKind.{FilterKind}
use Rattle.ev_listener_json.specs.declared.filters.FilterKind.TheVariants.{Manager, TcpProxy, Other}
use Rattle.ev_listener_json.specs.Parts.{first_of}
use Rattle.ev_listener_json.specs.Filters.{kind_in, config_serve, config_broken, filter_serve, filter_serves, filter_broken, filters_of}
use Rattle.ev_listener_json.specs.ChainExtensions.{kind_extensions, chain_extensions}
use Rattle.ev_listener_json.specs.ChainMatches.{filter_chain_match_of, filter_chain_match_broken}

-- a match that asks for nothing
abbrev pub no_criteria : FilterChainMatch
no_criteria = record {
  destination_port = None;
  prefix_ranges = [];
  server_names = [];
  transport_protocol = None;
  application_protocols = [];
  direct_source_prefix_ranges = [];
  source_type = None;
  source_prefix_ranges = [];
  source_ports = [];
}

-- a chain by this project's own rules: it has a way of serving alone
abbrev pub plain_chain : Serve → FilterChain
plain_chain serve = record { criteria = no_criteria; serve = serve; secrets = []; extensions = []; body_text = [] }

-- ---- a chain

-- what is served: what the first filter does that serves, or something that isn't read
abbrev pub serve_or_other : Option Serve → Serve
serve_or_other serve = unwrap_or serve other_serve

unfoldable pub served_by : Data → Serve
served_by chain = serve_or_other (first_of (map (filter_serve Envoy) (filters_of chain)))

-- What a chain breaks beside its match: what one of its filters breaks, and what it breaks itself. V17:
-- more than one filter serves.
unfoldable pub filters_broken : Data → BrokenRules
filters_broken chain = either_broken (any_broken (filter_broken Envoy) (filters_of chain)) (record none_broken {
  v6 = is_wrong (objects_of (codes "filters") chain);
  v17 = more_than_one (map (filter_serves Envoy) (filters_of chain));
})

-- the tree of its match
unfoldable pub chain_match_of : Data → Data
chain_match_of chain = inside (object_of (codes "filter_chain_match") chain)

-- what a chain breaks beside its match: by what it serves, by its transport socket,
-- and by the extensions of its filters
unfoldable pub served_broken : Data → BrokenRules
served_broken chain = either_broken (filters_broken chain) (either_broken (transport_secrets chain).broken (chain_extensions chain).broken)

-- a chain that takes the connections that a match asks for
unfoldable pub chain_with : FilterChainMatch → Data → FilterChain
chain_with criteria chain = record {
  criteria = criteria;
  serve = served_by chain;
  secrets = (transport_secrets chain).list;
  extensions = (chain_extensions chain).list;
  body_text = plain_text chain;
}

unfoldable pub envoy_chain_broken : Data → BrokenRules
envoy_chain_broken chain =
    either_broken (served_broken chain)
    (either_broken (filter_chain_match_broken (chain_match_of chain)) (record none_broken { v6 = is_wrong (object_of (codes "filter_chain_match") chain) }))

unfoldable pub envoy_chain_of : Data → FilterChain
envoy_chain_of chain = chain_with (filter_chain_match_of (chain_match_of chain)) chain

-- a default chain, and what it breaks, if there is one: its match is left aside
abbrev pub default_chain : Found Data → Option FilterChain
default_chain Absent = None
default_chain Wrong = None
default_chain (Given chain) = Some (chain_with no_criteria chain)

abbrev pub default_broken : Found Data → BrokenRules
default_broken Absent = none_broken
default_broken Wrong = none_broken
default_broken (Given chain) = served_broken chain

-- ---- an API listener: its connection manager represents the one filter of one chain without a match

-- it is given, in any form, and hides the chains
abbrev pub has_api : Data → Bool
has_api listener = not (is_absent (field_of (codes "api_listener") listener))

-- the tree of its own `api_listener`
unfoldable pub api_outer_of : Data → Data
api_outer_of listener = inside (object_of (codes "api_listener") listener)

unfoldable pub api_config_of : Data → Data
api_config_of listener = inside (object_of (codes "api_listener") (api_outer_of listener))

unfoldable pub api_kind_of : Data → FilterKind
api_kind_of listener = kind_in (text_of (codes "@type") (api_config_of listener))

abbrev pub is_manager : FilterKind → Bool
is_manager Manager = true
is_manager TcpProxy = false
is_manager Other = false

-- the extensions of its manager
unfoldable pub api_extensions : Data → References
api_extensions listener = kind_extensions (api_kind_of listener) (api_config_of listener)

-- what it breaks: what its configuration breaks, and what it breaks itself. V17: it is no connection manager.
unfoldable pub api_broken : Data → BrokenRules
api_broken listener = either_broken (config_broken Envoy (api_kind_of listener) (api_config_of listener)) (either_broken (api_extensions listener).broken (record none_broken {
  v6 =
      is_wrong (object_of (codes "api_listener") listener)
      || is_wrong (object_of (codes "api_listener") (api_outer_of listener))
      || is_wrong (text_of (codes "@type") (api_config_of listener));
  v17 = not (is_manager (api_kind_of listener));
}))

unfoldable pub api_serve_of : Data → Serve
api_serve_of listener = serve_or_other (config_serve Envoy (api_kind_of listener) (api_config_of listener))

-- its one chain, by the manager's configuration, what it serves and the extensions that it asks for
abbrev pub api_chain : Data → Serve → List Reference → FilterChain
api_chain config serve extensions = record {
  criteria = no_criteria;
  serve = serve;
  secrets = [];
  extensions = extensions;
  body_text = plain_text config;
}

abbrev pub api_chain_of : Data → FilterChain
api_chain_of listener = api_chain (api_config_of listener) (api_serve_of listener) (api_extensions listener).list

-- ---- all chains of a listener

unfoldable pub chains_of : Data → List Data
chains_of tree = listed (objects_of (codes "filter_chains") tree)

abbrev pub has_default : Data → Bool
has_default tree = is_given (object_of (codes "default_filter_chain") tree)

-- What they break: what one of them breaks, the default chain's match left aside,
-- and what they break together. V16: there is none, and the listener listens by TCP. V26:
-- two of them take a connection in common.
unfoldable pub given_chains_broken : Bool → Data → BrokenRules
given_chains_broken udp tree =
    either_broken (any_broken envoy_chain_broken (chains_of tree))
    (either_broken (default_broken (object_of (codes "default_filter_chain") tree)) (record none_broken {
      v6 = is_wrong (objects_of (codes "filter_chains") tree) || is_wrong (object_of (codes "default_filter_chain") tree);
      v16 = (length (chains_of tree) == 0) && not (has_default tree) && not udp;
      v26 = has_collision (map (λ (c : FilterChain). c.criteria) (map envoy_chain_of (chains_of tree)));
    }))

unfoldable pub given_default_of : Data → Option FilterChain
given_default_of tree = default_chain (object_of (codes "default_filter_chain") tree)

-- ---- the chains that count: an API listener hides those that are given

unfoldable pub envoy_chains_broken : Bool → Data → BrokenRules
envoy_chains_broken udp tree = if has_api tree then api_broken tree else given_chains_broken udp tree

unfoldable pub envoy_chains_of : Data → List FilterChain
envoy_chains_of tree =
    if has_api tree then api_chain_of tree ∷ []
    else map envoy_chain_of (chains_of tree)

unfoldable pub envoy_default_of : Data → Option FilterChain
envoy_default_of tree = if has_api tree then None else given_default_of tree
