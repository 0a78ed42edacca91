-- What one event does to the world, and how it is answered, by the rules of a journal's format.
-- Source: the xDS transport protocol, incremental variant, for streams and responses;
-- the other events are in modules of their own.
use Rattle.std.specs.Prelude.{ℕ, true, false, List, if◌then◌else◌, Option, Some, None}
use Rattle.ev_types.specs.Items.{ResponseParts}
use Rattle.ev_types.specs.declared.contents.Kind.{Kind}
use Rattle.ev_types.specs.declared.journals.Format.{Format}
use Rattle.ev_types.specs.declared.events.Verdict.{Verdict}
use Rattle.ev_types.specs.declared.events.Actor.{Actor}
use Rattle.ev_types.specs.declared.events.Actor.TheVariants.{Stream, Health as health_checker, Timer, Main, Worker}
use Rattle.ev_types.specs.declared.events.Event.{Event}
use Rattle.ev_types.specs.declared.events.Event.TheVariants.{Connect, Disconnect, Response, Health, FetchTimeout, DrainTimeout, TtlExpired, Publish, Reap, Accept, Close, Settle}
use Rattle.ev_types.specs.declared.events.Answer.{Answer}
use Rattle.ev_types.specs.declared.events.Answer.TheVariants.{Ignored, Done, Moved, Replied}
use Rattle.ev_model.specs.World.{World}
use Rattle.ev_model.specs.Live.{lives_of}
use Rattle.ev_model.specs.Verdicts.{verdicts_of}
use Rattle.ev_model.specs.Rows.{with_removals, add_items, made_names, with_first}
use Rattle.ev_model.specs.Tidy.{tidy}
use Rattle.ev_model.specs.Requests.{connect_requests, requests_of, reply_of}
use Rattle.ev_model.specs.Signals.{health, fetch_timeout, drain_timeout, ttl_expired}
use Rattle.ev_model.specs.Publishing.{publish, reap}
use Rattle.ev_model.specs.Connections.{accept, close, settle}

-- a stream opens; where one is open already, nothing is done
abbrev pub connect : World → World × Answer
connect world =
    if world.stream then (world, Ignored) else (tidy (record world { stream = true }), Moved (connect_requests world))

-- the stream is lost; where none is open, nothing is done
abbrev pub disconnect : World → World × Answer
disconnect world = if world.stream then (tidy (record world { stream = false }), Done) else (world, Ignored)

-- the world that a response of this kind leaves, with these verdicts on its resources
abbrev pub responded : Kind → ResponseParts → List Verdict → World → World
responded kind response verdicts world =
    tidy (with_first kind (made_names verdicts response.items) (add_items kind verdicts response.items (with_removals kind response world)))

-- a response of this kind is answered: the reply comes first
abbrev pub answered : Kind → ResponseParts → List Verdict → World → World × Answer
answered kind response verdicts world =
    let after = responded kind response verdicts world in
    (after, Replied (requests_of world after (Some (reply_of kind response verdicts))) verdicts)

-- a response of this type; of a type that isn't read, nothing is done
abbrev pub respond_by : Option Kind → ResponseParts → World → World × Answer
respond_by None response world = (world, Ignored)
respond_by (Some kind) response world = answered kind response (verdicts_of (lives_of world) world.versions response) world

-- a response; where no stream is open, nothing is done
abbrev pub respond : ResponseParts → World → World × Answer
respond response world = if world.stream then respond_by response.kind response world else (world, Ignored)

-- what a worker does; no other actor does it
abbrev pub of_worker : (ℕ → World → World × Answer) → Actor → World → World × Answer
of_worker change Stream world = (world, Ignored)
of_worker change health_checker world = (world, Ignored)
of_worker change Timer world = (world, Ignored)
of_worker change Main world = (world, Ignored)
of_worker change (Worker worker) world = change worker world

-- the world after the event, and the answer to it
abbrev pub step : Format → World → Actor → Event → World × Answer
step format world actor Connect = connect world
step format world actor Disconnect = disconnect world
step format world actor (Response response) = respond response world
step format world actor (Health cluster host healthy) = health cluster host healthy world
step format world actor (FetchTimeout timeout) = fetch_timeout timeout.kind timeout.name world
step format world actor (DrainTimeout listener) = drain_timeout listener world
step format world actor (TtlExpired kind name) = ttl_expired kind name world
step format world actor Publish = publish world
step format world actor Reap = reap format world
step format world actor (Accept ask) = of_worker (accept ask) actor world
step format world actor (Close connection) = of_worker (close connection) actor world
step format world actor Settle = of_worker settle actor world
