-- What is kept of the lines so far.
use Rattle.std.specs.Prelude.{◌≡◌, ℕ, List, [], ◌∷◌, ◌++◌, map, true, false, if◌then◌else◌, codes, Option, None, Some}
use Rattle.serde_json.specs.Data.{Data, string}
use Rattle.serde_json.specs.View.{view}
use Rattle.serde_json.specs.declared.value.Value.{Value}
use Rattle.ev_types.specs.declared.contents.Kind.{Kind}
use Rattle.ev_types.specs.declared.contents.Kind.TheVariants.{Cds, Eds, Lds, Rds, Sds, Ecds}
use Rattle.ev_types.specs.declared.events.Profile.{Profile}
use Rattle.ev_model.specs.Requests.{other_than}
use Rattle.ev_script.specs.Members.{is_op}
use Rattle.ev_sotw.specs.Discovery.{DiscoveryParts, names_in}
use Rattle.ev_sotw.specs.declared.names_so_far.NamesSoFar.{NamesSoFar}
use Rattle.ev_sotw.specs.Deltas.{is_open_after, last_names, delta_in}

-- it is what the searches find, of a script in a profile
pub record FollowsLines (profile : Profile) (lines : List Data) (names : NamesSoFar) : Type 0 where
  pub connected : names.connected ≡ is_open_after lines
  pub clusters : names.clusters ≡ last_names profile Cds lines
  pub listeners : names.listeners ≡ last_names profile Lds lines

-- it goes on by a line
abbrev pub GoesOnBy : Profile → Data → NamesSoFar → NamesSoFar → Type 0
GoesOnBy profile line before after = (lines : List Data) → FollowsLines profile lines before → FollowsLines profile (lines ++ line ∷ []) after

-- what was made of a line
abbrev pub IsDeltaBy : Profile → NamesSoFar → Data → Option Data → Type 0
IsDeltaBy profile names line made = (lines : List Data) → FollowsLines profile lines names → made ≡ delta_in profile lines line

-- values are these names, each as a text
abbrev pub AreNames : List Value → List (List ℕ) → Type 0
AreNames values names = map view values ≡ map string names

-- the names that a response removes
abbrev pub removed_by_kind : Option Kind → NamesSoFar → DiscoveryParts → List (List ℕ)
removed_by_kind None names response = []
removed_by_kind (Some Cds) names response = other_than (names_in Cds response) names.clusters
removed_by_kind (Some Eds) names response = []
removed_by_kind (Some Lds) names response = other_than (names_in Lds response) names.listeners
removed_by_kind (Some Rds) names response = []
removed_by_kind (Some Sds) names response = []
removed_by_kind (Some Ecds) names response = []

abbrev pub removed_by : NamesSoFar → DiscoveryParts → List (List ℕ)
removed_by names response = removed_by_kind response.kind names response

-- after a response
abbrev pub after_kind : Option Kind → DiscoveryParts → NamesSoFar → NamesSoFar
after_kind None response names = names
after_kind (Some Cds) response names = record names { clusters = if names.connected then names_in Cds response else names.clusters }
after_kind (Some Eds) response names = names
after_kind (Some Lds) response names = record names { listeners = if names.connected then names_in Lds response else names.listeners }
after_kind (Some Rds) response names = names
after_kind (Some Sds) response names = names
after_kind (Some Ecds) response names = names

abbrev pub after_response : DiscoveryParts → NamesSoFar → NamesSoFar
after_response response names = after_kind response.kind response names

-- after a line without a response
abbrev pub after_other : Data → NamesSoFar → NamesSoFar
after_other line names =
    if is_op (codes "connect") line then record names { connected = true }
    else if is_op (codes "disconnect") line then record names { connected = false }
    else names
