-- What the messages that are made are read as.
use Rattle.std.specs.Prelude.{◌≡◌, ◌≤◌, ℕ, List, [], map, length, Option, Some, None}
use Rattle.serde_json.specs.Data.{Data, string}
use Rattle.ev_types.specs.declared.contents.Kind.{Kind}
use Rattle.ev_types.specs.declared.events.Profile.{Profile}
use Rattle.ev_types.specs.Items.{ItemParts, ResponseParts}
use Rattle.ev_wire.specs.Kinds.{kind_with}
use Rattle.ev_wire.specs.Responses.{item_of, response_of}
use Rattle.ev_sotw.specs.Discovery.{DiscoveryParts, resource_name}
use Rattle.ev_sotw.specs.Delta.{item_tree, delta_message}

-- what a resource is read as in a profile
abbrev pub item_told : Profile → Kind → List ℕ → Data → ItemParts
item_told profile kind version resource = item_of profile kind (item_tree kind version resource)

-- the response of the incremental protocol that says the same, with these removed names
abbrev pub told_with : Profile → Option Kind → DiscoveryParts → List (List ℕ) → ResponseParts
told_with profile None response removed = record { kind = None; nonce = response.nonce; items = []; removed = [] }
told_with profile (Some kind) response removed = record {
  kind = Some kind;
  nonce = response.nonce;
  items = map (item_told profile kind response.version) response.resources;
  removed = removed;
}

abbrev pub response_told : Profile → DiscoveryParts → List (List ℕ) → ResponseParts
response_told profile response removed = told_with profile response.kind response removed

-- what every response of the state of the world keeps in a profile: its type is that of its URL, and it has a nonce
pub record IsDiscovery (profile : Profile) (response : DiscoveryParts) : Type 0 where
  pub kind : kind_with profile response.url ≡ response.kind
  pub nonce : 1 ≤ length response.nonce

-- the message made of a response is read in a profile as this response, whose items have the names of the resources
pub record IsReadAs (profile : Profile) (response : DiscoveryParts) (removed : List (List ℕ)) : Type 0 where
  pub reads : response_of profile (delta_message response (map string removed)) ≡ Some (response_told profile response removed)
  pub named : (kind : Kind) (resource : Data) → (item_told profile kind response.version resource).name ≡ resource_name kind resource

abbrev pub DeltasAreRead : Type 0
DeltasAreRead =
    (profile : Profile) (response : DiscoveryParts) (removed : List (List ℕ)) → IsDiscovery profile response → IsReadAs profile response removed
