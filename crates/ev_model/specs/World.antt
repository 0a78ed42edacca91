-- What the managers know, as lists and marks. This project's own:
-- the sources are the cluster manager's and the listener manager's states, of which Envoy's documentation on warming,
-- draining and discovery speaks.
use Rattle.std.specs.Prelude.{ℕ, Bool, false, List, [], ◌∷◌, Option, None, replicate, length, ◌-◌}
use Rattle.ev_types.specs.declared.contents.Kind.{Kind}
use Rattle.ev_types.specs.declared.hosts.Host.{Host}
use Rattle.ev_types.specs.declared.rows.GenRow.{GenRow}
use Rattle.ev_types.specs.declared.rows.Arrival.{Arrival}
use Rattle.ev_types.specs.declared.rows.KeptVersion.{KeptVersion}
use Rattle.ev_types.specs.declared.rows.Phase.{Phase}
use Rattle.ev_types.specs.declared.rows.Phase.TheVariants.{Clusters}
use Rattle.ev_types.specs.declared.origins.Origin.{Origin}
use Rattle.ev_model.specs.declared.pictures.Shown.{Shown}

-- something was received for a name of this kind, when so many numbers were allocated:
-- for the generations up to the last of them
pub record Arrived : Type 0 where
  pub kind : Kind
  pub name : List ℕ
  pub arrival : Arrival
  pub made : ℕ

-- a health result of a host, for the generation of this number
pub record HealthResult : Type 0 where
  pub number : ℕ
  pub host : Host
  pub healthy : Bool

-- an open connection of a worker: on a listener's generation, by the chain of this origin where one was found, and on a
-- cluster's generation where it was forwarded
pub record OpenMember : Type 0 where
  pub worker : ℕ
  pub connection : ℕ
  pub listener : ℕ
  pub cluster : Option ℕ
  pub origin : Option Origin

-- what the picture shows that is held before the first is published
abbrev pub nothing_shown : Shown
nothing_shown = record { clusters = []; listeners = [] }

-- what the managers know
pub record World : Type 0 where
  -- the generations
  pub rows : List GenRow
  -- how many numbers were allocated for them
  pub made : ℕ
  -- what was received for watched names, in order of coming
  pub arrivals : List Arrived
  -- health results; the last of a number and host counts
  pub results : List HealthResult
  -- one version for each kind and name that has one, sorted by name; each says whether the resource's life is bounded
  pub versions : List KeptVersion
  -- what all published pictures show; the place is the version, and the first one is empty
  pub pictures : List Shown
  -- the version that each worker holds
  pub held : List ℕ
  -- the connections that are open
  pub opened : List OpenMember
  -- the numbers of the listener rows whose drain timeout has passed
  pub expired : List ℕ
  -- whether a stream is open
  pub stream : Bool
  -- the names that the first answered response of clusters, and of listeners, made rows for
  pub first_clusters : Option (List (List ℕ))
  pub first_listeners : Option (List (List ℕ))
  -- whether the first clusters, and the first listeners, timed out
  pub late_clusters : Bool
  pub late_listeners : Bool
  pub phase : Phase
  -- the node's id, which never changes
  pub node : List ℕ

-- nothing is known yet, and each worker holds the empty picture
abbrev pub opening : ℕ → List ℕ → World
opening workers node = record {
  rows = [];
  made = 0;
  arrivals = [];
  results = [];
  versions = [];
  pictures = nothing_shown ∷ [];
  held = replicate workers 0;
  opened = [];
  expired = [];
  stream = false;
  first_clusters = None;
  first_listeners = None;
  late_clusters = false;
  late_listeners = false;
  phase = Clusters;
  node = node;
}

-- the version of the last published picture
abbrev pub last_version : World → ℕ
last_version world = length world.pictures - 1
