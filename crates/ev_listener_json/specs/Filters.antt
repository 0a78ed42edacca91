-- Network filters (`envoy.config.listener.v3.Filter`) and filter chains (`envoy.config.listener.v3.FilterChain`).
-- Connection managers and TCP proxies are read; filters of other types are passed over.
use Rattle.std.specs.Prelude.{ℕ, ◌||◌, List, [], map, Bool, false, not, if◌then◌else◌, Option, Some, None, is_some, unwrap_or, Result, codes}
use Rattle.std.specs.Str.{bytes_eq}
use Rattle.serde_json.specs.Data.{Data}
use Rattle.ev_types.specs.declared.events.Profile.{Profile}
use Rattle.ev_types.specs.declared.events.Profile.TheVariants.{Own}
use Rattle.ev_types.specs.declared.listeners.Serve.{Serve}
use Rattle.ev_types.specs.declared.listeners.Serve.TheVariants.{Tcp, Inline}
use Rattle.ev_tree.specs.declared.broken.BrokenRules.{BrokenRules}
use Rattle.ev_tree.specs.declared.outcome.Found.{Found}
use Rattle.ev_tree.specs.declared.outcome.Found.TheVariants.{Absent, Wrong, Given}
use Rattle.ev_tree.specs.Forms.{is_wrong, inside, listed, text_of, object_of, objects_of}
use Rattle.ev_tree.specs.Rules.{judged}
use Rattle.ev_tree.specs.Broken.{none_broken, either_broken, any_broken, least_of}
use Rattle.ev_tree.specs.Counts.{exactly_one}
use Rattle.ev_route_json.specs.Targets.{target_of, proxy_broken_in}
use Rattle.ev_listener_json.specs.declared.filters.FilterKind.{FilterKind}
use Rattle.ev_listener_json.specs.declared.filters.FilterKind.TheVariants.{Manager, TcpProxy, Other}
use Rattle.ev_listener_json.specs.Parts.{first_of}
use Rattle.ev_listener_json.specs.Members.{has_member}
use Rattle.ev_listener_json.specs.Managers.{manager_serve, manager_broken}

-- ---- the kind of a filter, and its configuration

abbrev pub manager_type : List ℕ
manager_type = codes "type.googleapis.com/envoy.extensions.filters.network.http_connection_manager.v3.HttpConnectionManager"

abbrev pub tcp_proxy_type : List ℕ
tcp_proxy_type = codes "type.googleapis.com/envoy.extensions.filters.network.tcp_proxy.v3.TcpProxy"

-- the kind that a type's name says
abbrev pub named_kind : List ℕ → FilterKind
named_kind name =
    if bytes_eq name manager_type then Manager
    else if bytes_eq name tcp_proxy_type then TcpProxy
    else Other

abbrev pub kind_in : Found (List ℕ) → FilterKind
kind_in Absent = Other
kind_in Wrong = Other
kind_in (Given name) = named_kind name

unfoldable pub config_of : Data → Data
config_of filter = inside (object_of (codes "typed_config") filter)

unfoldable pub filter_kind_of : Data → FilterKind
filter_kind_of filter = kind_in (text_of (codes "@type") (config_of filter))

-- what a filter of this kind serves
abbrev pub config_serve : Profile → FilterKind → Data → Option Serve
config_serve profile Manager config = Some (manager_serve profile config)
config_serve profile TcpProxy config = Some (Tcp (target_of config))
config_serve profile Other config = None

-- what it breaks
abbrev pub config_broken : Profile → FilterKind → Data → BrokenRules
config_broken profile Manager config = manager_broken profile config
config_broken profile TcpProxy config = proxy_broken_in profile config
config_broken profile Other config = none_broken

-- ---- a filter

unfoldable pub filter_serve : Profile → Data → Option Serve
filter_serve profile filter = config_serve profile (filter_kind_of filter) (config_of filter)

-- it is a connection manager or a TCP proxy
abbrev pub filter_serves : Profile → Data → Bool
filter_serves profile filter = is_some (filter_serve profile filter)

-- what a filter breaks: what its configuration breaks, and what it breaks itself
unfoldable pub filter_broken : Profile → Data → BrokenRules
filter_broken profile filter = either_broken (config_broken profile (filter_kind_of filter) (config_of filter)) (record none_broken {
  v6 = is_wrong (object_of (codes "typed_config") filter) || is_wrong (text_of (codes "@type") (config_of filter));
})

-- ---- a filter chain, by this project's own rules

unfoldable pub filters_of : Data → List Data
filters_of chain = listed (objects_of (codes "filters") chain)

-- what the first filter that serves does
unfoldable pub chain_serve : Data → Option Serve
chain_serve chain = first_of (map (filter_serve Own) (filters_of chain))

-- What a filter chain breaks: what one of its filters breaks, and what it breaks itself. V16: its match has a member
-- of any name. V17: not exactly one filter serves.
unfoldable pub chain_broken : Data → BrokenRules
chain_broken chain = either_broken (any_broken (filter_broken Own) (filters_of chain)) (record none_broken {
  v6 = is_wrong (object_of (codes "filter_chain_match") chain) || is_wrong (objects_of (codes "filters") chain);
  v16 = has_member (inside (object_of (codes "filter_chain_match") chain));
  v17 = not (exactly_one (map (filter_serves Own) (filters_of chain)));
})

-- ---- a filter chain among several, which may have a match

-- what it breaks but V16
abbrev pub chain_refused : Data → BrokenRules
chain_refused chain = record (chain_broken chain) { v16 = false }

-- what it reads as
abbrev pub chain_reading : Data → Result Serve ℕ
chain_reading chain = judged (least_of (chain_refused chain)) (unwrap_or (chain_serve chain) (Inline (record { hosts = [] })))
