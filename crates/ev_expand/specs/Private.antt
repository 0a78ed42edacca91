-- Names that a command keeps to itself: no line of its input may use one.
use Rattle.std.specs.Prelude.{ℕ, ◌+◌, Bool, false, ◌||◌, ◌&&◌, List, Option, Some, None, option_map, unwrap_or, nat_eq}
use Rattle.std.specs.List.{list_any, starts_with, position}
use Rattle.serde_json.specs.Data.{Data}
use Rattle.ev_types.specs.Items.{ItemParts, ResponseParts}
use Rattle.ev_types.specs.Kinds.{kind_same}
use Rattle.ev_types.specs.declared.clusters.Discovery.{Discovery}
use Rattle.ev_types.specs.declared.clusters.Discovery.TheVariants as is
use Rattle.ev_types.specs.declared.contents.Kind.{Kind}
use Rattle.ev_types.specs.declared.contents.Kind.TheVariants.{Cds, Eds}
use Rattle.ev_types.specs.declared.contents.Content.{Content}
use Rattle.ev_types.specs.declared.contents.Content.TheVariants.{Cluster as a_cluster}
use Rattle.ev_types.specs.declared.contents.Body.{Body}
use Rattle.ev_types.specs.declared.contents.Body.TheVariants.{Good, Bad, Beat}
use Rattle.ev_types.specs.declared.events.Event.{Event}
use Rattle.ev_types.specs.declared.events.Event.TheVariants.{Response, FetchTimeout, TtlExpired}
use Rattle.ev_types.specs.declared.events.Profile.{Profile}
use Rattle.ev_expand.specs.Fronts.{event_of}

-- the name begins with the prefix of private names
abbrev pub is_private : List ℕ → List ℕ → Bool
is_private prefix name = starts_with nat_eq name prefix

-- a cluster's endpoints are asked for by a private name
abbrev pub discovery_uses : List ℕ → Discovery → Bool
discovery_uses prefix (is.Static rows) = false
discovery_uses prefix (is.Eds service limited fresh) = is_private prefix service
discovery_uses prefix is.Elsewhere = false

abbrev pub content_uses : List ℕ → Content → Bool
content_uses prefix (a_cluster cluster) = discovery_uses prefix cluster.discovery
content_uses prefix content = false

abbrev pub body_uses : List ℕ → Body → Bool
body_uses prefix (Good content) = content_uses prefix content
body_uses prefix (Bad rule) = false
body_uses prefix Beat = false

-- a resource of this kind uses a private name: one of endpoints by its own name, a good one of clusters by its
-- service's
abbrev pub item_uses : List ℕ → Kind → ItemParts → Bool
item_uses prefix Cds item = body_uses prefix item.body
item_uses prefix Eds item = is_private prefix item.name
item_uses prefix kind item = false

-- a name of this kind is private: one of endpoints
abbrev pub named_uses : List ℕ → Kind → List ℕ → Bool
named_uses prefix kind name = kind_same kind Eds && is_private prefix name

-- a response of this kind uses one, at a resource or as a removed name
abbrev pub response_uses : List ℕ → Option Kind → ResponseParts → Bool
response_uses prefix None response = false
response_uses prefix (Some kind) response = list_any (item_uses prefix kind) response.items || list_any (named_uses prefix kind) response.removed

-- an event uses one: as a response, and as the fetch timeout or the end of the time to live of endpoints
abbrev pub event_uses : List ℕ → Event → Bool
event_uses prefix (Response response) = response_uses prefix response.kind response
event_uses prefix (FetchTimeout timeout) = unwrap_or (option_map (named_uses prefix timeout.kind) timeout.name) false
event_uses prefix (TtlExpired kind name) = named_uses prefix kind name
event_uses prefix event = false

abbrev pub line_uses : Profile → List ℕ → Data → Bool
line_uses profile prefix line = unwrap_or (option_map (event_uses prefix) (event_of profile line)) false

-- the number of the first line that uses a private name; the lines are those from the second on
abbrev pub first_use : Profile → List ℕ → List Data → Option ℕ
first_use profile prefix lines = option_map (λ index. index + 2) (position (line_uses profile prefix) lines)
