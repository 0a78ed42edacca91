-- Resources and responses, and what their types keep.
use Rattle.std.specs.Prelude.{◌≡◌, ◌≤◌, List, [], ℕ, Bool, true, All, Option, Some, None, length, ⊤}
use Rattle.ev_types.specs.Texts.{IsName}
use Rattle.ev_types.specs.declared.contents.Kind.{Kind}
use Rattle.ev_types.specs.declared.contents.Kind.TheVariants.{Cds, Eds, Lds, Rds, Sds, Ecds}
use Rattle.ev_types.specs.declared.contents.Content.{Content}
use Rattle.ev_types.specs.declared.contents.Content.TheVariants.{Cluster, Assignment, Listener, Routes, Secret, Extension}
use Rattle.ev_types.specs.declared.contents.Body.{Body}
use Rattle.ev_types.specs.declared.contents.Body.TheVariants.{Good, Bad, Beat}

-- a resource of a response
pub record ItemParts : Type 0 where
  pub name : List ℕ
  pub version : List ℕ
  -- a positive time to live is given
  pub ttl : Bool
  pub body : Body

-- the outer name of a good body or a heartbeat is a name, and the cluster's or listener's own
abbrev pub IsOwnName : List ℕ → Body → Type 0
IsOwnName name (Good (Cluster cluster)) = IsName name × (cluster.name ≡ name)
IsOwnName name (Good (Assignment rows)) = IsName name
IsOwnName name (Good (Listener listener)) = IsName name × (listener.name ≡ name)
IsOwnName name (Good (Routes table)) = IsName name
IsOwnName name (Good Secret) = IsName name
IsOwnName name (Good Extension) = IsName name
IsOwnName name (Bad rule) = ⊤
IsOwnName name Beat = IsName name

-- a heartbeat has a time to live
abbrev pub IsBeating : Bool → Body → Type 0
IsBeating ttl (Good content) = ⊤
IsBeating ttl (Bad rule) = ⊤
IsBeating ttl Beat = ttl ≡ true

-- what every resource of a response keeps
pub record IsItem (item : ItemParts) : Type 0 where
  pub named : IsOwnName item.name item.body
  pub beating : IsBeating item.ttl item.body

-- the body breaks no form rule
abbrev pub IsGood : Body → Type 0
IsGood (Good content) = ⊤
IsGood (Bad rule) = ⊥
IsGood Beat = ⊥

-- the body belongs to a name of 1 to 512 bytes
abbrev pub IsNamed : Body → Type 0
IsNamed (Good content) = ⊤
IsNamed (Bad rule) = ⊥
IsNamed Beat = ⊤

-- the type of resource that has this content
abbrev pub content_kind : Content → Kind
content_kind (Cluster cluster) = Cds
content_kind (Assignment rows) = Eds
content_kind (Listener listener) = Lds
content_kind (Routes table) = Rds
content_kind Secret = Sds
content_kind Extension = Ecds

-- a good body has content of this type
abbrev pub IsBodyOf : Kind → Body → Type 0
IsBodyOf kind (Good content) = content_kind content ≡ kind
IsBodyOf kind (Bad rule) = ⊤
IsBodyOf kind Beat = ⊤

-- a response of the incremental protocol
pub record ResponseParts : Type 0 where
  pub kind : Option Kind
  pub nonce : List ℕ
  pub items : List ItemParts
  pub removed : List (List ℕ)

-- good bodies have the response's type, and a response of no type that is read has nothing in it
abbrev pub IsResponseOf : Option Kind → List ItemParts → List (List ℕ) → Type 0
IsResponseOf None items removed = (items ≡ []) × (removed ≡ [])
IsResponseOf (Some kind) items removed = All (λ (item : ItemParts). IsBodyOf kind item.body) items

-- what every response keeps
pub record IsResponse (r : ResponseParts) : Type 0 where
  pub typed : IsResponseOf r.kind r.items r.removed
  pub answerable : 1 ≤ length r.nonce
