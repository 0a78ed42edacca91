-- The line that follows a line: a response of endpoints, with those of the numbers that are due.
use Rattle.std.specs.Prelude.{◌≡◌, ℕ, ◌==◌, List, ◌++◌, length, map, filter_map, Option, Some, None, option_map, if◌then◌else◌, String, codes, decimal}
use Rattle.std.specs.declared.alloc.Global.{Global}
use Rattle.serde_json.specs.Data.{Data, string, array, object, Members, no_members, put}
use Rattle.serde_json.specs.View.{view, items_of, members_view}
use Rattle.serde_json.specs.declared.value.Value.{Value}
use Rattle.ev_types.specs.declared.contents.Kind.TheVariants.{Eds}
use Rattle.ev_expand.specs.declared.following.Due.{Due}
use Rattle.ev_types.specs.Kinds.{type_url}
use Rattle.ev_expand.specs.Guarding.{private_name, response_tree}

-- a place that is due, and its endpoints, where there are some
pub record DueParts : Type 0 where
  pub place : ℕ
  pub endpoints : Option Data

-- what the places that are due show
abbrev pub due_shown : Due → DueParts
due_shown due = record { place = due.place; endpoints = option_map view due.endpoints }

-- the resource with these endpoints, by its name, in a response of this version
abbrev pub endpoints_body : List ℕ → Data → Data
endpoints_body name endpoints = object
    (put (codes "@type") (string (type_url Eds)) (put (codes "clusterName") (string name) (put (codes "endpoints") endpoints no_members)))

abbrev pub endpoints_entry : List ℕ → List ℕ → Data → Data
endpoints_entry version name endpoints = object
    (put (codes "name") (string name) (put (codes "resource") (endpoints_body name endpoints) (put (codes "version") (string version) no_members)))

-- the resource of a place that has endpoints
abbrev pub entry_due : List ℕ → List ℕ → DueParts → Option Data
entry_due prefix version due = option_map (endpoints_entry version (private_name prefix due.place)) due.endpoints

-- a name, where there are no endpoints
abbrev pub name_without : List ℕ → Option Data → Option Data
name_without name None = Some (string name)
name_without name (Some endpoints) = None

-- the name of a place that has none
abbrev pub name_due : List ℕ → DueParts → Option Data
name_due prefix due = name_without (private_name prefix due.place) due.endpoints

-- the members with a list of these, where there are any
abbrev pub with_list : List ℕ → List Data → Members → Members
with_list name values members = if length values == 0 then members else put name (array (items_of values)) members

-- these values are put as a list among the members, where there are any
abbrev pub PutsList : List ℕ → List Value → List (String Global × Value) → List (String Global × Value) → Type 0
PutsList name values old new = members_view new ≡ with_list name (map view values) (members_view old)

-- the line that follows a line of this version, where these are due: those that have endpoints as resources, and the
-- names of the others as removed ones
abbrev pub following_line : List ℕ → List ℕ → List ℕ → List DueParts → Data
following_line prefix nonce version due = response_tree (object
    (with_list (codes "resources") (filter_map (entry_due prefix version) due)
    (with_list (codes "removedResources") (filter_map (name_due prefix) due)
    (put (codes "typeUrl") (string (type_url Eds)) (put (codes "nonce") (string (nonce ++ version)) no_members)))))

-- the line that follows line `at`, where these are due
abbrev pub following_at : List ℕ → List ℕ → ℕ → List Due → Data
following_at prefix nonce at due = following_line prefix nonce (decimal at) (map due_shown due)
