-- Responses of the state of the world: a DiscoveryResponse by the proto3 JSON mapping,
-- of the xDS transport protocol, in this project's profile. All fields but those named here are passed over.
use Rattle.std.specs.Prelude.{ℕ, ◌&&◌, List, [], map, Bool, true, not, Option, Some, None, codes}
use Rattle.serde_json.specs.Data.{Data}
use Rattle.serde_json.specs.View.{view}
use Rattle.ev_types.specs.declared.contents.Kind.{Kind}
use Rattle.ev_types.specs.declared.events.Profile.{Profile}
use Rattle.ev_model.specs.Watching.{sorted_names}
use Rattle.ev_tree.specs.Forms.{is_wrong, given_or, listed, text_of, list_of}
use Rattle.ev_wire.specs.Kinds.{name_field}
use Rattle.ev_wire.specs.Responses.{response_kind, nonce_of, has_head, given_if}
use Rattle.ev_sotw.specs.declared.discovery.Discovery.{Discovery}

-- a response of the state of the world
pub record DiscoveryParts : Type 0 where
  pub kind : Option Kind
  pub url : List ℕ
  pub nonce : List ℕ
  pub version : List ℕ
  pub resources : List Data

-- its version is a text and its resources are a list of any values, where they are given
unfoldable pub has_parts : Data → Bool
has_parts tree = not (is_wrong (text_of (codes "version_info") tree)) && not (is_wrong (list_of (codes "resources") tree))

-- they are looked at where the type is read
abbrev pub has_parts_of : Option Kind → Data → Bool
has_parts_of None tree = true
has_parts_of (Some kind) tree = has_parts tree

abbrev pub is_discovery : Profile → Data → Bool
is_discovery profile tree = has_head tree && has_parts_of (response_kind profile tree) tree

-- what a tree has as such a response
abbrev pub parts_in : Profile → Data → DiscoveryParts
parts_in profile tree = record {
  kind = response_kind profile tree;
  url = given_or [] (text_of (codes "type_url") tree);
  nonce = nonce_of tree;
  version = given_or [] (text_of (codes "version_info") tree);
  resources = listed (list_of (codes "resources") tree);
}

-- the response that a tree is, or none where it isn't one
abbrev pub discovery_of : Profile → Data → Option DiscoveryParts
discovery_of profile tree = given_if (is_discovery profile tree) (parts_in profile tree)

-- a resource's own name: the empty one where it has none
abbrev pub resource_name : Kind → Data → List ℕ
resource_name kind resource = given_or [] (text_of (name_field kind) resource)

-- the names of the resources of a response of this kind, in the order of their bytes, each once
abbrev pub names_in : Kind → DiscoveryParts → List (List ℕ)
names_in kind response = sorted_names (map (resource_name kind) response.resources)

-- what the program's type of responses represents
abbrev pub seen : Discovery → DiscoveryParts
seen response = record {
  kind = response.kind;
  url = response.url.now;
  nonce = response.nonce.now;
  version = response.version.now;
  resources = map view response.resources.now;
}
