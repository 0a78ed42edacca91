-- What an answer of `choose` names, and which host it goes to.
use Rattle.std.specs.Prelude.{◌≡◌, ◌≤◌, ℕ, Bool, true, ⊤, All, Contains, List, [], ◌∷◌, filter, Option, Some, None, option_map, option_to_list, slice_get}
use Rattle.std.specs.List.{list_all}
use Rattle.ev_types.specs.Statuses.{is_active}
use Rattle.ev_types.specs.declared.rows.GenRow.{GenRow}
use Rattle.ev_types.specs.Hosts.{HostRowParts}
use Rattle.ev_types.specs.declared.hosts.Host.{Host}
use Rattle.ev_types.specs.declared.ways.Way.TheVariants.{Undecided, Elsewhere, NoRoute, Local, Redirect, NoCluster, NoEndpoint, NoSecret, Served}
use Rattle.ev_model.specs.Choice.{Course}
use Rattle.ev_model.specs.Connections.{cluster_on}
use Rattle.ev_model.specs.World.{World}
use Rattle.ev_model.specs.Warming.{assignment_of, is_eligible}
use Rattle.ev_model.specs.Picture.{is_shown}
use Rattle.ev_model.specs.declared.pictures.Choice.{Choice}
use Rattle.ev_model.specs.declared.pictures.Choice.TheVariants.{NoListener, NoChain, On}
use Rattle.ev_model.specs.declared.pictures.Picture.{Picture}
use Rattle.ev_model.specs.declared.pictures.Shown.{Shown}
use Rattle.ev_model.specs.declared.pictures.ServedCluster.{ServedCluster}
use Rattle.ev_snapshot.specs.Tables.{cluster_numbered}

-- the host at a place of a cluster, if there is one
abbrev pub placed_host : Option ServedCluster → ℕ → Option Host
placed_host None place = None
placed_host (Some cluster) place = option_map (λ (r : HostRowParts). r.host) (slice_get cluster.hosts place)

-- the host at a place of the first cluster of this number
abbrev pub host_of : Picture → ℕ → ℕ → Option Host
host_of picture number place = placed_host (cluster_numbered picture.shown.clusters number) place

-- the numbers of the generations that a choice names: the listener's, and the cluster's, if the connection is on one
abbrev pub numbers_named : Choice → List ℕ
numbers_named NoListener = []
numbers_named NoChain = []
numbers_named (On listener chain origin course) = listener ∷ option_to_list (cluster_on course)

-- all of them are shown
abbrev pub names_shown : Shown → Choice → Bool
names_shown shown choice = list_all (λ number. is_shown number shown) (numbers_named choice)

-- the host is at this place of these hosts, and none of them has a lower priority
pub record IsLowestAt (hosts : List HostRowParts) (place : ℕ) (host : HostRowParts) : Type 0 where
  pub there : slice_get hosts place ≡ Some host
  pub lowest : All (λ (other : HostRowParts). host.priority ≤ other.priority) hosts

-- where a course goes to a host, a cluster of its number is shown with the host at its place, and with none of a lower
-- priority
abbrev pub GoesLowest : Shown → Course → Type 0
GoesLowest shown Undecided = ⊤
GoesLowest shown (Elsewhere cluster) = ⊤
GoesLowest shown NoRoute = ⊤
GoesLowest shown (Local status) = ⊤
GoesLowest shown Redirect = ⊤
GoesLowest shown NoCluster = ⊤
GoesLowest shown NoEndpoint = ⊤
GoesLowest shown (NoSecret cluster) = ⊤
GoesLowest shown (Served number place) =
    (cluster : ServedCluster) × (host : HostRowParts)
    × Contains shown.clusters cluster × (cluster.number ≡ number) × IsLowestAt cluster.hosts place host

-- the same of a choice
abbrev pub TakesLowest : Shown → Choice → Type 0
TakesLowest shown NoListener = ⊤
TakesLowest shown NoChain = ⊤
TakesLowest shown (On listener chain origin course) = GoesLowest shown course

-- the row serves in the world, the host at this place of its eligible ones is this one, and no eligible one has a
-- lower priority
pub record IsBestHost (world : World) (row : GenRow) (place : ℕ) (host : HostRowParts) : Type 0 where
  pub known : Contains world.rows row
  pub serves : is_active row.status ≡ true
  pub eligible : is_eligible world row host ≡ true
  pub lowest : IsLowestAt (filter (is_eligible world row) (assignment_of world row)) place host

-- where a course goes to a host, it is an eligible one of its generation in the world, of the lowest priority that has
-- one
abbrev pub GoesEligible : World → Course → Type 0
GoesEligible world Undecided = ⊤
GoesEligible world (Elsewhere cluster) = ⊤
GoesEligible world NoRoute = ⊤
GoesEligible world (Local status) = ⊤
GoesEligible world Redirect = ⊤
GoesEligible world NoCluster = ⊤
GoesEligible world NoEndpoint = ⊤
GoesEligible world (NoSecret cluster) = ⊤
GoesEligible world (Served number place) =
    (row : GenRow) × (host : HostRowParts) × (row.number ≡ number) × IsBestHost world row place host

-- the same of a choice
abbrev pub TakesEligible : World → Choice → Type 0
TakesEligible world NoListener = ⊤
TakesEligible world NoChain = ⊤
TakesEligible world (On listener chain origin course) = GoesEligible world course
