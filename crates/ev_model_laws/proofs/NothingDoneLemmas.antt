-- Events that are answered as having done nothing, by cases on the event and the tests in it.
use Rattle.std.proofs.Common.{◌≡◌, ℕ, Bool, true, false, ◌||◌, if◌then◌else◌, List, [], ◌∷◌, Option, Some, None, is_some, refl, ap, IsTrue}
use Rattle.ev_types.specs.Items.{ResponseParts}
use Rattle.ev_types.specs.declared.hosts.Host.{Host}
use Rattle.ev_types.specs.declared.contents.Kind.{Kind}
use Rattle.ev_types.specs.declared.contents.Kind.TheVariants.{Cds, Eds, Lds, Rds, Sds, Ecds}
use Rattle.ev_types.specs.declared.events.Actor.{Actor}
use Rattle.ev_types.specs.declared.events.Actor.TheVariants.{Stream, Health as health_checker, Timer, Main, Worker}
use Rattle.ev_types.specs.declared.events.Event.TheVariants.{Connect, Disconnect, Response, Health, FetchTimeout, DrainTimeout, TtlExpired, Publish, Reap, Accept, Close, Settle}
use Rattle.ev_types.specs.declared.events.Answer.{Answer}
use Rattle.ev_types.specs.declared.events.Ask.{Ask}
use Rattle.ev_types.specs.declared.rows.GenRow.{GenRow}
use Rattle.ev_model.specs.declared.pictures.Picture.{Picture}
use Rattle.ev_model.specs.declared.pictures.Choice.{Choice}
use Rattle.ev_model.specs.declared.pictures.Choice.TheVariants.{NoListener, NoChain, On}
use Rattle.ev_model.specs.World.{World, OpenMember, last_version}
use Rattle.ev_model.specs.Choice.{choice_of}
use Rattle.ev_model.specs.Picture.{shown_of, shown_same}
use Rattle.ev_model.specs.Dead.{shown_at, picture_held}
use Rattle.ev_model.specs.Versions.{is_bounded}
use Rattle.ev_model.specs.Phase.{is_clusters}
use Rattle.ev_model.specs.Signals.{rows_meant, health_of, is_awaited, name_timeout_of, fetch_timeout, unexpired, expire}
use Rattle.ev_model.specs.Connections.{Worked, is_open, answer_of, opened_by, accepted, closed, with_worked, accept, close, settle}
use Rattle.ev_model.specs.Step.{connect, disconnect, respond_by, of_worker}
use Rattle.ev_model_laws.specs.NothingDone.{is_nothing_done, LeavesAsItWas}

-- where nothing is done by the answer, the world is as it was
abbrev Leaves : World → World × Answer → Type 0
Leaves world done = IsTrue (is_nothing_done done.1) → done.0 ≡ world

-- what holds of both branches of a test
leaves_if : (test : Bool) (world : World) (one other : World × Answer) → Leaves world one → Leaves world other
    → Leaves world (if test then one else other)
leaves_if true world one other by_one by_other = by_one
leaves_if false world one other by_one by_other = by_other

connect_leaves : (world : World) → Leaves world (connect world)
connect_leaves world = leaves_if world.stream world _ _ (λ h. refl) (λ h. cc)

disconnect_leaves : (world : World) → Leaves world (disconnect world)
disconnect_leaves world = leaves_if world.stream world _ _ (λ h. cc) (λ h. refl)

respond_by_leaves : (kind : Option Kind) (response : ResponseParts) (world : World) → Leaves world (respond_by kind response world)
respond_by_leaves None response world h = refl
respond_by_leaves (Some kind) response world h = cc

health_leaves : (host : Host) (healthy : Bool) (rows : List GenRow) (world : World) → Leaves world (health_of host healthy rows world)
health_leaves host healthy [] world h = refl
health_leaves host healthy (row ∷ rows) world h = cc

name_leaves : (kind : Kind) (name : Option (List ℕ)) (world : World) → Leaves world (name_timeout_of kind name world)
name_leaves kind None world = λ h. refl
name_leaves kind (Some name) world = leaves_if (is_awaited world.arrivals world.rows kind name) world _ _ (λ h. cc) (λ h. refl)

timeout_leaves : (kind : Kind) (name : Option (List ℕ)) (world : World) → Leaves world (fetch_timeout kind name world)
timeout_leaves Cds name world = leaves_if (is_some world.first_clusters || world.late_clusters) world _ _ (λ h. refl) (λ h. cc)
timeout_leaves Eds name world = name_leaves Eds name world
timeout_leaves Lds name world =
    leaves_if (is_clusters world.phase || (is_some world.first_listeners || world.late_listeners)) world _ _ (λ h. refl) (λ h. cc)
timeout_leaves Rds name world = name_leaves Rds name world
timeout_leaves Sds name world = name_leaves Sds name world
timeout_leaves Ecds name world = name_leaves Ecds name world

expire_leaves : (numbers : List ℕ) (world : World) → Leaves world (expire numbers world)
expire_leaves [] world h = refl
expire_leaves (number ∷ numbers) world h = cc

-- an accepted connection is answered by its choice, and never as nothing done
choice_done : (picture : Picture) (choice : Choice) → is_nothing_done (answer_of picture choice) ≡ false
choice_done picture NoListener = refl
choice_done picture NoChain = refl
choice_done picture (On listener chain origin course) = refl

-- where nothing is done by a worker's answer, the connections are as they were
abbrev IsLeft : List OpenMember → Worked → Type 0
IsLeft opened worked = IsTrue (is_nothing_done worked.answer) → worked.opened ≡ opened

left_if : (test : Bool) (opened : List OpenMember) (one other : Worked) → IsLeft opened one → IsLeft opened other
    → IsLeft opened (if test then one else other)
left_if true opened one other by_one by_other = by_one
left_if false opened one other by_one by_other = by_other

opened_left : (picture : Picture) (worker connection : ℕ) (choice : Choice) (opened : List OpenMember)
    → IsLeft opened (opened_by picture worker connection choice opened)
opened_left picture worker connection choice opened h =
    let done : is_nothing_done (answer_of picture choice) ≡ false = choice_done picture choice in cc

accepted_left : (picture : Picture) (ask : Ask) (worker : ℕ) (opened : List OpenMember)
    → IsLeft opened (accepted picture ask worker opened)
accepted_left picture ask worker opened =
    left_if (is_open opened worker ask.conn) opened _ _ (λ h. refl)
    (opened_left picture worker ask.conn (choice_of picture ask) opened)

closed_left : (connection worker : ℕ) (opened : List OpenMember) → IsLeft opened (closed connection worker opened)
closed_left connection worker opened = left_if (is_open opened worker connection) opened _ _ (λ h. cc) (λ h. refl)

-- so is the world
worked_leaves : (world : World) (worked : Worked) → IsLeft world.opened worked → Leaves world (with_worked world worked)
worked_leaves world worked left h = ap (λ opened. record world { opened = opened }) (left h)

worker_leaves : (change : ℕ → World → World × Answer) (actor : Actor) (world : World) → ((worker : ℕ) → Leaves world (change worker world))
    → Leaves world (of_worker change actor world)
worker_leaves change Stream world each h = refl
worker_leaves change health_checker world each h = refl
worker_leaves change Timer world each h = refl
worker_leaves change Main world each h = refl
worker_leaves change (Worker worker) world each h = each worker h

pub left_as_it_was : LeavesAsItWas
left_as_it_was format world actor Connect = connect_leaves world
left_as_it_was format world actor Disconnect = disconnect_leaves world
left_as_it_was format world actor (Response response) =
    leaves_if world.stream world _ _ (respond_by_leaves response.kind response world) (λ h. refl)
left_as_it_was format world actor (Health cluster host healthy) = health_leaves host healthy (rows_meant world.arrivals cluster host world.rows) world
left_as_it_was format world actor (FetchTimeout timeout) = timeout_leaves timeout.kind timeout.name world
left_as_it_was format world actor (DrainTimeout listener) = expire_leaves (unexpired world.expired listener world.rows) world
left_as_it_was format world actor (TtlExpired kind name) =
    leaves_if (is_bounded world.versions kind name) world _ _ (λ h. cc) (λ h. refl)
left_as_it_was format world actor Publish =
    leaves_if (shown_same (shown_of world) (shown_at world (last_version world))) world _ _ (λ h. refl) (λ h. cc)
left_as_it_was format world actor Reap = λ h. cc
left_as_it_was format world actor (Accept ask) =
    worker_leaves (accept ask) actor world
    (λ worker. worked_leaves world _ (accepted_left (picture_held world worker) ask worker world.opened))
left_as_it_was format world actor (Close connection) =
    worker_leaves (close connection) actor world (λ worker. worked_leaves world _ (closed_left connection worker world.opened))
left_as_it_was format world actor Settle = worker_leaves settle actor world (λ worker h. cc)
