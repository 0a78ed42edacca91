-- What a worker does: it accepts connections in the picture that it holds, closes them,
-- and settles on the last picture. This project's own, for Envoy's worker threads;
-- that connections on a drained listener are closed is draining.
-- A worker needs its picture and the connections alone, and of these only its own count:
-- the inner words take just them.
use Rattle.std.specs.Prelude.{ℕ, Bool, false, not, ◌&&◌, ◌==◌, if◌then◌else◌, List, [], ◌∷◌, ◌++◌, filter, find, map, slice_set, slice_get, Option, Some, None, is_some, option_and_then, option_map, option_to_list, unwrap_or}
use Rattle.std.specs.List.{list_any}
use Rattle.ev_types.specs.Hosts.{HostRowParts}
use Rattle.ev_types.specs.declared.hosts.Host.{Host}
use Rattle.ev_types.specs.declared.events.Ask.{Ask}
use Rattle.ev_types.specs.declared.events.Answer.{Answer}
use Rattle.ev_types.specs.declared.events.Answer.TheVariants.{InUse, NoListener as no_listener, NoChain as no_chain, On as on, Done, NotOpen, Settled}
use Rattle.ev_types.specs.declared.origins.Origin.{Origin}
use Rattle.ev_types.specs.declared.ways.Way.{Way}
use Rattle.ev_types.specs.declared.ways.Way.TheVariants.{Undecided, Elsewhere, NoRoute, Local, Redirect, NoCluster, NoEndpoint, NoSecret, Served}
use Rattle.ev_types.specs.Origins.{origin_same}
use Rattle.ev_model.specs.declared.pictures.Picture.{Picture}
use Rattle.ev_model.specs.declared.pictures.Shown.{Shown}
use Rattle.ev_model.specs.declared.pictures.ServedCluster.{ServedCluster}
use Rattle.ev_model.specs.declared.pictures.Choice.{Choice}
use Rattle.ev_model.specs.declared.pictures.Choice.TheVariants.{NoListener, NoChain, On}
use Rattle.ev_model.specs.declared.pictures.ServedChain.{ServedChain}
use Rattle.ev_model.specs.declared.pictures.ServedListener.{ServedListener}
use Rattle.ev_model.specs.World.{World, OpenMember, last_version}
use Rattle.ev_model.specs.Choice.{Course, choice_of}
use Rattle.ev_model.specs.Picture.{has_number, is_shown}
use Rattle.ev_model.specs.Dead.{picture_held, last_picture}
use Rattle.ev_model.specs.Publishing.{ascending}

-- the member is this worker's connection of this number
abbrev pub is_member : ℕ → ℕ → OpenMember → Bool
is_member worker connection member = (member.worker == worker) && (member.connection == connection)

-- among these connections the worker's one of this number is open
abbrev pub is_open : List OpenMember → ℕ → ℕ → Bool
is_open opened worker connection = list_any (is_member worker connection) opened

-- the cluster of this number in what a picture shows
abbrev pub cluster_numbered : Shown → ℕ → Option ServedCluster
cluster_numbered shown number = find (λ (c : ServedCluster). c.number == number) shown.clusters

-- the host at a place of a cluster
abbrev pub host_in : ℕ → ServedCluster → Option Host
host_in place cluster = option_map (λ (h : HostRowParts). h.host) (slice_get cluster.hosts place)

-- the host at a place of the cluster of this number in a picture
abbrev pub host_at : Picture → ℕ → ℕ → Option Host
host_at picture cluster place = option_and_then (host_in place) (cluster_numbered picture.shown cluster)

-- the way to the host that was chosen; a choice in a picture always has its host there
abbrev pub served_by : ℕ → Option Host → Way Host
served_by cluster None = NoEndpoint
served_by cluster (Some host) = Served cluster host

-- a course with its host in place of the host's place
abbrev pub way_of : Picture → Course → Way Host
way_of picture Undecided = Undecided
way_of picture (Elsewhere cluster) = Elsewhere cluster
way_of picture NoRoute = NoRoute
way_of picture (Local status) = Local status
way_of picture Redirect = Redirect
way_of picture NoCluster = NoCluster
way_of picture NoEndpoint = NoEndpoint
way_of picture (NoSecret cluster) = NoSecret cluster
way_of picture (Served cluster place) = served_by cluster (host_at picture cluster place)

-- a choice as an answer
abbrev pub answer_of : Picture → Choice → Answer
answer_of picture NoListener = no_listener
answer_of picture NoChain = no_chain
answer_of picture (On listener chain origin course) = on listener chain (way_of picture course)

-- the cluster that a connection is on by its course, if it is on one
abbrev pub cluster_on : Course → Option ℕ
cluster_on Undecided = None
cluster_on (Elsewhere cluster) = cluster
cluster_on NoRoute = None
cluster_on (Local status) = None
cluster_on Redirect = None
cluster_on NoCluster = None
cluster_on NoEndpoint = None
cluster_on (NoSecret cluster) = cluster
cluster_on (Served cluster place) = Some cluster

-- what a choice opens for a worker's connection: nothing without a listener or a chain
abbrev pub members_of : ℕ → ℕ → Choice → List OpenMember
members_of worker connection NoListener = []
members_of worker connection NoChain = []
members_of worker connection (On listener chain origin course) =
    record { worker = worker; connection = connection; listener = listener; cluster = cluster_on course; origin = origin } ∷ []

-- the connections that are open, and an answer
pub record Worked : Type 0 where
  pub opened : List OpenMember
  pub answer : Answer

-- a connection is accepted with this choice in a picture
abbrev pub opened_by : Picture → ℕ → ℕ → Choice → List OpenMember → Worked
opened_by picture worker connection choice opened =
    record { opened = opened ++ members_of worker connection choice; answer = answer_of picture choice }

-- a worker with this picture accepts a connection; where it has one of this number open, nothing is done
abbrev pub accepted : Picture → Ask → ℕ → List OpenMember → Worked
accepted picture ask worker opened =
    if is_open opened worker ask.conn
    then record { opened = opened; answer = InUse }
    else opened_by picture worker ask.conn (choice_of picture ask) opened

-- a worker closes a connection; where it isn't open there, nothing is done
abbrev pub closed : ℕ → ℕ → List OpenMember → Worked
closed connection worker opened =
    if is_open opened worker connection
    then record { opened = filter (λ (m : OpenMember). not (is_member worker connection m)) opened; answer = Done }
    else record { opened = opened; answer = NotOpen }

-- the same origin, where both are given
abbrev pub shares_origin : Option Origin → Option Origin → Bool
shares_origin None other = false
shares_origin (Some origin) None = false
shares_origin (Some origin) (Some other) = origin_same origin other

-- the chains of a listener as it is shown, then its default chain
abbrev pub chains_shown : ServedListener → List ServedChain
chains_shown listener = listener.filter_chains ++ option_to_list listener.default_filter_chain

-- the listener has a chain of this origin
abbrev pub shows_chain : Option Origin → ServedListener → Bool
shows_chain origin listener = list_any (λ (c : ServedChain). shares_origin origin c.origin) (chains_shown listener)

-- a listener that is shown has a chain of this origin
abbrev pub is_chain_shown : Option Origin → Shown → Bool
is_chain_shown origin shown = list_any (shows_chain origin) shown.listeners

-- the listener that a connection moves to: where its own isn't shown, the one that has its chain
abbrev pub next_listener : Shown → OpenMember → Option ServedListener
next_listener shown member = if is_shown member.listener shown then None else find (shows_chain member.origin) shown.listeners

-- the connection is this worker's, and moves
abbrev pub is_moving : Shown → ℕ → OpenMember → Bool
is_moving shown worker member = (member.worker == worker) && is_some (next_listener shown member)

-- the number of the listener that a connection is on once it has moved
abbrev pub listener_after : Shown → OpenMember → ℕ
listener_after shown member = unwrap_or (option_map (λ (l : ServedListener). l.number) (next_listener shown member)) member.listener

-- the worker's connections once they have moved; its cluster stays
abbrev pub moved_on : Shown → ℕ → List OpenMember → List OpenMember
moved_on shown worker opened =
    map (λ (m : OpenMember). if m.worker == worker then record m { listener = listener_after shown m } else m) opened

-- the connection is this worker's, its listener's drain timeout has passed, and no listener that is shown has its chain
abbrev pub is_closing : Shown → List ℕ → ℕ → OpenMember → Bool
is_closing shown expired worker member =
    (member.worker == worker) && has_number member.listener expired && not (is_chain_shown member.origin shown)

-- the numbers of the connections that pass the test, from the least to the greatest
abbrev pub connections_where : (OpenMember → Bool) → List OpenMember → List ℕ
connections_where test opened = ascending (map (λ (m : OpenMember). m.connection) (filter test opened))

-- the connections that a settle leaves
abbrev pub left_open : Shown → List ℕ → ℕ → List OpenMember → List OpenMember
left_open shown expired worker opened = filter (λ (m : OpenMember). not (is_closing shown expired worker m)) opened

-- a worker settles on this picture: its connections move to where their chains stay,
-- and are closed on listeners whose drain timeout has passed where their chains don't stay
abbrev pub settled : List ℕ → Picture → ℕ → List OpenMember → Worked
settled expired picture worker opened = record {
  opened = moved_on picture.shown worker (left_open picture.shown expired worker opened);
  answer = Settled
      (connections_where (is_closing picture.shown expired worker) opened)
      (connections_where (is_moving picture.shown worker) opened)
      picture.version;
}

-- the world with what a worker has done
abbrev pub with_worked : World → Worked → World × Answer
with_worked world worked = (record world { opened = worked.opened }, worked.answer)

-- a worker accepts a connection in the picture that it holds
abbrev pub accept : Ask → ℕ → World → World × Answer
accept ask worker world = with_worked world (accepted (picture_held world worker) ask worker world.opened)

-- a worker closes a connection
abbrev pub close : ℕ → ℕ → World → World × Answer
close connection worker world = with_worked world (closed connection worker world.opened)

-- a worker takes over the last picture, and its connections on expired listeners move or are closed
abbrev pub settle : ℕ → World → World × Answer
settle worker world =
    with_worked (record world { held = slice_set world.held worker (last_version world) })
    (settled world.expired (last_picture world) worker world.opened)
