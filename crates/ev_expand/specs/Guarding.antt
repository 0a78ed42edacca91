-- Guarded items of responses of clusters, their numbers, and what is written in their place.
use Rattle.std.specs.Prelude.{ℕ, ◌+◌, Bool, not, List, [], ◌∷◌, ◌++◌, filter, filter_map, flat_map, map, Option, Some, None, option_map, unwrap_or, is_some, if◌then◌else◌, codes, decimal}
use Rattle.std.specs.List.{list_any, position_or_len}
use Rattle.serde_json.specs.Data.{Data, null, string, array, object, no_members, put}
use Rattle.serde_json.specs.Find.{get}
use Rattle.serde_json.specs.View.{items_of}
use Rattle.ev_types.specs.Items.{ItemParts}
use Rattle.ev_types.specs.declared.contents.Kind.{Kind}
use Rattle.ev_types.specs.declared.contents.Kind.TheVariants.{Cds}
use Rattle.ev_types.specs.declared.events.Event.{Event}
use Rattle.ev_types.specs.declared.events.Event.TheVariants.{Response}
use Rattle.ev_types.specs.declared.events.Profile.{Profile}
use Rattle.ev_wire.specs.Responses.{entries_of}
use Rattle.ev_expand.specs.declared.keys.Key.{Key}
use Rattle.ev_expand.specs.Keys.{key_same}
use Rattle.ev_expand.specs.Fronts.{event_of, message_of}
use Rattle.ev_expand.specs.Editing.{without, with_value}

-- What a command guards. `profile`: how the lines are read. `key_of`: the key of a resource of a response of
-- clusters, where it is guarded. `own_of`: what is kept of the first resource of a key.
pub record Guard : Type 0 where
  pub profile : Profile
  pub key_of : Data → Option Key
  pub own_of : Data → Data

-- something guarded: its key, and what is kept of its first resource
pub record Guarded : Type 0 where
  pub key : Key
  pub own : Data

-- both are one
abbrev pub guarded_same : Guarded → Guarded → Bool
guarded_same a b = key_same a.key b.key

-- the kind of the response that an event is
abbrev pub kind_of : Option Event → Option Kind
kind_of (Some (Response response)) = response.kind
kind_of event = None

-- the resources of a response of this kind, where it is one of clusters
abbrev pub items_as : Option Kind → List ItemParts → List ItemParts
items_as None items = []
items_as (Some Cds) items = items
items_as (Some kind) items = []

-- the resources of clusters of an event
abbrev pub items_by : Option Event → List ItemParts
items_by (Some (Response response)) = items_as response.kind response.items
items_by event = []

-- the resources of a line of this kind, where it is a response
abbrev pub listed_as : Option Kind → Data → List Data
listed_as None message = []
listed_as (Some Cds) message = entries_of message
listed_as (Some kind) message = []

-- the resources of clusters of a line, where it is this event
abbrev pub clusters_by : Option Event → Data → List Data
clusters_by event line = listed_as (kind_of event) (message_of line)

-- the resources of clusters of a line of a script of this profile
abbrev pub clusters_in : Profile → Data → List Data
clusters_in profile line = clusters_by (event_of profile line) line

-- the guarded resource
abbrev pub guarded_of : Guard → Data → Option Guarded
guarded_of guard entry = option_map (λ key. record { key = key; own = guard.own_of entry }) (guard.key_of entry)

-- the guarded resources of a line
abbrev pub guarded_in : Guard → Data → List Guarded
guarded_in guard line = filter_map (guarded_of guard) (clusters_in guard.profile line)

-- each of these once, in the order of first appearance
abbrev pub each_once : List Guarded → List Guarded
each_once [] = []
each_once (first ∷ others) = first ∷ filter (λ other. not (guarded_same other first)) (each_once others)

-- what is guarded in these lines, each key once, in the order of first appearance
abbrev pub guarded_by : Guard → List Data → List Guarded
guarded_by guard lines = each_once (flat_map (guarded_in guard) lines)

-- the place of a key among these, from 0
abbrev pub place_in : List Guarded → Key → ℕ
place_in guarded key = position_or_len (λ (g : Guarded). key_same key g.key) guarded

-- the place of a resource's key, where it is guarded
abbrev pub place_at : Guard → List Guarded → Data → Option ℕ
place_at guard guarded entry = option_map (place_in guarded) (guard.key_of entry)

-- the name by which the endpoints of a place are asked for; its number is one above the place
abbrev pub private_name : List ℕ → ℕ → List ℕ
private_name prefix place = prefix ++ decimal (place + 1)

-- the endpoints come on the stream by this name, and are waited for without limit
abbrev pub waiting_config : List ℕ → Data
waiting_config name = object (put (codes "edsConfig") (object (put (codes "ads") (object no_members) (put (codes "initialFetchTimeout") (string (codes "0s")) no_members)))
    (put (codes "serviceName") (string name) no_members))

-- a cluster without its endpoints, in either spelling, and without the second spelling of the configuration of EDS
abbrev pub stripped_body : Data → Data
stripped_body body = without (codes "eds_cluster_config") (without (codes "load_assignment") (without (codes "loadAssignment") body))

-- a cluster that waits for this name, and is the same else
abbrev pub waiting_body : List ℕ → Data → Data
waiting_body name body =
    with_value (codes "edsClusterConfig") (waiting_config name) (with_value (codes "type") (string (codes "EDS")) (stripped_body body))

-- the body of a resource of a response
abbrev pub body_in : Data → Data
body_in entry = unwrap_or (get (codes "resource") entry) null

-- a resource, with a body that waits by the number of this place, where there is one
abbrev pub waiting_entry : List ℕ → Option ℕ → Data → Data
waiting_entry prefix None entry = entry
waiting_entry prefix (Some place) entry = with_value (codes "resource") (waiting_body (private_name prefix place) (body_in entry)) entry

-- a line of a response of this message
abbrev pub response_tree : Data → Data
response_tree message = object (put (codes "message") message (put (codes "op") (string (codes "response")) no_members))

-- the resources of a line, the guarded ones as they wait
abbrev pub waiting_entries : List ℕ → Guard → List Guarded → Data → List Data
waiting_entries prefix guard guarded line =
    map (λ entry. waiting_entry prefix (place_at guard guarded entry) entry) (clusters_in guard.profile line)

-- a line with these; one without guarded resources stays as it is
abbrev pub waiting_line : List ℕ → Guard → List Guarded → Data → Data
waiting_line prefix guard guarded line =
    if list_any (λ entry. is_some (guard.key_of entry)) (clusters_in guard.profile line)
    then response_tree (with_value (codes "resources") (array (items_of (waiting_entries prefix guard guarded line))) (message_of line))
    else line
