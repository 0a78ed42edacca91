-- Requests as trees and as text: the members of a DeltaDiscoveryRequest by the proto3 JSON mapping, of the xDS
-- transport protocol. That members are in the order of bytes and empty ones are left out is this project's own.
use Rattle.std.specs.Prelude.{◌≡◌, ℕ, List, [], ◌∷◌, map, Option, Some, None, String, codes}
use Rattle.std.specs.declared.alloc.Global.{Global}
use Rattle.serde_json.specs.Data.{Data, number, unsigned, string, array, object, Members, member, no_members, put}
use Rattle.serde_json.specs.View.{items_of, members_view}
use Rattle.serde_json.specs.declared.value.Value.{Value}
use Rattle.serde_json.specs.Written.{compact_text}
use Rattle.ev_types.specs.declared.contents.Request.{Request}
use Rattle.ev_types.specs.Kinds.{type_url}

-- the members of a map became what `change` makes of them
abbrev pub Puts : (Members → Members) → List (String Global × Value) → List (String Global × Value) → Type 0
Puts change old new = members_view new ≡ change (members_view old)

-- the nonce of the response that is answered as a member, where there is one that isn't empty
abbrev pub with_nonce : Option (List ℕ) → Members → Members
with_nonce None members = members
with_nonce (Some []) members = members
with_nonce (Some (byte ∷ bytes)) members = put (codes "responseNonce") (string (byte ∷ bytes)) members

-- names as a member, where there are any
abbrev pub with_names : List ℕ → List (List ℕ) → Members → Members
with_names key [] members = members
with_names key (name ∷ names) members = put key (array (items_of (map string (name ∷ names)))) members

-- the node as a member, by its id
abbrev pub with_node : Option (List ℕ) → Members → Members
with_node None members = members
with_node (Some id) members = put (codes "node") (object (member (codes "id") (string id) no_members)) members

-- each name with its version
abbrev pub version_members : List (List ℕ × List ℕ) → Members → Members
version_members [] members = members
version_members (version ∷ versions) members = version_members versions (put version.0 (string version.1) members)

-- the versions that are held as a member, where there are any
abbrev pub with_versions : List (List ℕ × List ℕ) → Members → Members
with_versions [] members = members
with_versions (version ∷ versions) members =
    put (codes "initialResourceVersions") (object (version_members (version ∷ versions) no_members)) members

-- the reason of a refusal as a member: code 13 is gRPC's INTERNAL
abbrev pub with_error : Option (List ℕ) → Members → Members
with_error None members = members
with_error (Some message) members =
    put (codes "errorDetail") (object (member (codes "code") (number (unsigned 13)) (member (codes "message") (string message) no_members))) members

-- a request as an object, whose empty members are left out
abbrev pub request_tree : Request → Data
request_tree request = object
    (with_error request.error
    (with_versions request.versions
    (with_node request.node
    (with_names (codes "resourceNamesSubscribe") request.subscribe
    (with_names (codes "resourceNamesUnsubscribe") request.unsubscribe
    (with_nonce request.nonce
    (put (codes "typeUrl") (string (type_url request.kind)) no_members)))))))

-- a request as text, without spaces
abbrev pub request_text : Request → List ℕ
request_text request = compact_text (request_tree request)
