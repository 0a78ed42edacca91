-- Messages of the incremental protocol that are made of responses of the state of the world.
use Rattle.std.specs.Prelude.{ℕ, ◌≡◌, List, [], ◌∷◌, map, Option, Some, None, codes}
use Rattle.serde_json.specs.Data.{Data, string, array, object, Members, member, no_members, put}
use Rattle.serde_json.specs.View.{view, items_of}
use Rattle.serde_json.specs.declared.value.Value.{Value}
use Rattle.ev_types.specs.declared.contents.Kind.{Kind}
use Rattle.ev_sotw.specs.Discovery.{DiscoveryParts, resource_name}

-- a resource as an item: its own name, itself, and the version of its response
unfoldable pub item_tree : Kind → List ℕ → Data → Data
item_tree kind version resource = object
    (member (codes "name") (string (resource_name kind resource))
    (member (codes "resource") resource
    (member (codes "version") (string version) no_members)))

-- an item for each resource: none of a type that isn't read
abbrev pub items_of_kind : Option Kind → List ℕ → List Data → List Data
items_of_kind None version resources = []
items_of_kind (Some kind) version resources = map (item_tree kind version) resources

abbrev pub items_for : DiscoveryParts → List Data
items_for response = items_of_kind response.kind response.version response.resources

-- a list as a member, where it isn't empty
abbrev pub with_list : List ℕ → List Data → Members → Members
with_list key [] members = members
with_list key (value ∷ values) members = put key (array (items_of (value ∷ values))) members

-- a message of the incremental protocol, whose empty lists are left out
unfoldable pub message_tree : List ℕ → List ℕ → List Data → List Data → Data
message_tree url nonce items removed = object
    (put (codes "typeUrl") (string url)
    (with_list (codes "resources") items
    (with_list (codes "removedResources") removed
    (put (codes "nonce") (string nonce) no_members))))

-- the value is the message of this type, nonce, items and removed names
abbrev pub IsMessageOf : List ℕ → List ℕ → List Value → List Value → Value → Type 0
IsMessageOf url nonce items removed message = view message ≡ message_tree url nonce (map view items) (map view removed)

-- the message that says what the response says, with these removed names, as texts
abbrev pub delta_message : DiscoveryParts → List Data → Data
delta_message response removed = message_tree response.url response.nonce (items_for response) removed
