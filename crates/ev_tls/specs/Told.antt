-- What the control plane has spoken of, by the lines where a stream is open.
use Rattle.std.specs.Prelude.{ℕ, Bool, true, false, not, ◌&&◌, nat_le, List, [], ◌++◌, length, map, filter, filter_map, flat_map, Option, Some, None, option_and_then, if◌then◌else◌, codes}
use Rattle.std.specs.List.{list_any, list_all, last_or}
use Rattle.std.specs.Str.{bytes_eq}
use Rattle.serde_json.specs.Data.{Data}
use Rattle.serde_json.specs.Find.{as_str}
use Rattle.serde_json.specs.View.{view}
use Rattle.serde_json.specs.declared.value.Value.{Value}
use Rattle.ev_types.specs.Items.{ItemParts, ResponseParts}
use Rattle.ev_types.specs.declared.contents.Kind.{Kind}
use Rattle.ev_types.specs.declared.contents.Kind.TheVariants.{Eds}
use Rattle.ev_types.specs.declared.contents.Body.{Body}
use Rattle.ev_types.specs.declared.contents.Body.TheVariants.{Good, Bad, Beat}
use Rattle.ev_types.specs.declared.events.Event.{Event}
use Rattle.ev_types.specs.declared.events.Event.TheVariants.{Response}
use Rattle.ev_types.specs.declared.events.Profile.{Profile}
use Rattle.ev_model.specs.Verdicts.{items_named, is_among}
use Rattle.ev_tree.specs.Forms.{given_or, listed, text_of, list_of}
use Rattle.ev_cluster_json.specs.Made.{name_in}
use Rattle.ev_wire.specs.Responses.{entries_of, item_of}
use Rattle.ev_expand.specs.declared.keys.Key.{Key}
use Rattle.ev_expand.specs.Fronts.{event_of, message_of, heard}
use Rattle.ev_expand.specs.Guarding.{body_in}
use Rattle.ev_tls.specs.declared.awaited.Awaited.{Awaited}
use Rattle.ev_tls.specs.declared.awaited.Awaited.TheVariants.{Secret, Endpoints}
use Rattle.ev_tls.specs.Awaited.{awaited_same, awaited_by}
use Rattle.ev_tls.specs.References.{own_name, endpoints_in}

-- the type of secrets
abbrev pub secret_type : List ℕ
secret_type = codes "type.googleapis.com/envoy.extensions.transport_sockets.tls.v3.Secret"

-- the name that an element of a list of removed names is
abbrev pub removed_name : Data → Option (List ℕ)
removed_name name = option_and_then name_in (as_str name)

-- the secrets that come with a message of secrets: those of its resources, and the removed ones
abbrev pub secrets_in : Data → List (List ℕ)
secrets_in message =
    filter_map own_name (listed (list_of (codes "resources") message))
    ++ filter_map removed_name (listed (list_of (codes "removed_resources") message))

-- a message of a type that isn't read may be one of secrets
abbrev pub secrets_told : Data → List (List ℕ)
secrets_told message = if bytes_eq (given_or [] (text_of (codes "type_url") message)) secret_type then secrets_in message else []

-- the name of a resource comes with it, unless it is a heartbeat
abbrev pub name_told : ItemParts → Body → Option (List ℕ)
name_told item (Good content) = name_in item.name
name_told item (Bad rule) = name_in item.name
name_told item Beat = None

-- the same, by its own body
abbrev pub item_told : ItemParts → Option (List ℕ)
item_told item = name_told item item.body

-- the names of endpoints that come with a response of endpoints: those of its resources, and the removed ones
abbrev pub endpoints_told : ResponseParts → List (List ℕ)
endpoints_told response = filter_map item_told response.items ++ filter_map name_in response.removed

-- what comes with a response, by its kind
abbrev pub told_as : Option Kind → ResponseParts → Data → List Awaited
told_as None response message = map Secret (secrets_told message)
told_as (Some Eds) response message = map Endpoints (endpoints_told response)
told_as (Some kind) response message = []

abbrev pub told_with : Option Event → Data → List Awaited
told_with (Some (Response response)) message = told_as response.kind response message
told_with event message = []

-- what comes with a line
abbrev pub told_by : Profile → Data → List Awaited
told_by profile line = told_with (event_of profile line) (message_of line)

-- it has come in these lines, where a stream was open
abbrev pub is_told : Profile → List Data → Awaited → Bool
is_told profile lines awaited = list_any (awaited_same awaited) (flat_map (told_by profile) (heard profile lines))

-- all that the clusters of the key wait for has come
abbrev pub is_complete : Profile → List Data → Key → Bool
is_complete profile lines key = list_all (is_told profile lines) (awaited_by key)

-- ---- values

-- the body is good
abbrev pub is_good : Body → Bool
is_good (Good content) = true
is_good (Bad rule) = false
is_good Beat = false

-- a resource gives its name a value: it is good, its name occurs once in the response, and isn't removed
abbrev pub gives_value : ResponseParts → ItemParts → Bool
gives_value response item =
    is_good item.body && not (nat_le 2 (length (items_named item.name response.items))) && not (is_among item.name response.removed)

-- the value that it gives: its endpoints
abbrev pub value_given : Profile → ResponseParts → Data → Option (List ℕ × Data)
value_given profile response entry =
    if gives_value response (item_of profile Eds entry) then Some ((item_of profile Eds entry).name, endpoints_in (body_in entry)) else None

-- the values that these resources of a response give
abbrev pub given_among : Profile → ResponseParts → List Data → List (List ℕ × Data)
given_among profile response entries = filter_map (value_given profile response) entries

-- the values that a response of endpoints gives
abbrev pub given_in : Profile → ResponseParts → Data → List (List ℕ × Data)
given_in profile response message = given_among profile response (entries_of message)

abbrev pub given_as : Profile → Option Kind → ResponseParts → Data → List (List ℕ × Data)
given_as profile (Some Eds) response message = given_in profile response message
given_as profile kind response message = []

abbrev pub given_with : Profile → Option Event → Data → List (List ℕ × Data)
given_with profile (Some (Response response)) message = given_as profile response.kind response message
given_with profile event message = []

-- what a value with its name shows
abbrev pub value_shown : List ℕ × Value → List ℕ × Data
value_shown value = (value.0, view value.1)

-- the values that a line gives, by name
abbrev pub values_in : Profile → Data → List (List ℕ × Data)
values_in profile line = given_with profile (event_of profile line) (message_of line)

-- the last value of a name among these
abbrev pub last_value : List ℕ → List (List ℕ × Data) → Option Data
last_value name values = last_or None (map (λ (v : List ℕ × Data). v.1) (filter (λ (v : List ℕ × Data). bytes_eq v.0 name) values))

-- the value of a name: the last one that was given where a stream was open
abbrev pub value_of : Profile → List Data → List ℕ → Option Data
value_of profile lines name = last_value name (flat_map (values_in profile) (heard profile lines))
