-- Who makes which events: the main side none of a worker, and a worker none that draws a number.
use Rattle.std.proofs.Common.{◌≡◌, ℕ, ◌<◌, false, length, refl, sym, subst}
use Rattle.ev_types.specs.Events.{IsMainSide, IsWorkerOf, MayMake}
use Rattle.ev_types.specs.Scripts.{items_in}
use Rattle.ev_types.specs.declared.events.Actor.{Actor}
use Rattle.ev_types.specs.declared.events.Actor.TheVariants.{Stream, Health as health_checker, Timer, Main, Worker}
use Rattle.ev_types.specs.declared.events.Event.{Event}
use Rattle.ev_types.specs.declared.events.Event.TheVariants.{Connect, Disconnect, Response, Health, FetchTimeout, DrainTimeout, TtlExpired, Publish, Reap, Accept, Close, Settle}
use Rattle.ev_model.specs.World.{World}
use Rattle.ev_model.specs.Runs.{is_batched}
use Rattle.ev_proxy.specs.Proxies.{IsKnown}

-- an actor of the main side is no worker
no_worker : (workers : ℕ) (actor : Actor) → IsMainSide actor → IsWorkerOf workers actor → ⊥
no_worker workers Stream main own = absurd own
no_worker workers health_checker main own = absurd own
no_worker workers Timer main own = absurd own
no_worker workers Main main own = absurd own
no_worker workers (Worker worker) main own = absurd main

-- what the main side makes is no accept or close
pub main_alone : (workers : ℕ) (actor : Actor) (event : Event) → IsMainSide actor → MayMake workers actor event → is_batched event ≡ false
main_alone workers actor Connect main may = refl
main_alone workers actor Disconnect main may = refl
main_alone workers actor (Response response) main may = refl
main_alone workers actor (Health cluster host healthy) main may = refl
main_alone workers actor (FetchTimeout timeout) main may = refl
main_alone workers actor (DrainTimeout listener) main may = refl
main_alone workers actor (TtlExpired kind name) main may = refl
main_alone workers actor Publish main may = refl
main_alone workers actor Reap main may = refl
main_alone workers actor (Accept ask) main may = absurd (no_worker workers actor main may)
main_alone workers actor (Close connection) main may = absurd (no_worker workers actor main may)
main_alone workers actor Settle main may = refl

-- an event of a worker: it is one of this many workers, and the event brings no resource
pub record IsWorkers (workers number : ℕ) (event : Event) : Type 0 where
  pub within : number < workers
  pub items : items_in event ≡ 0

pub worker_works : (workers number : ℕ) (event : Event) → MayMake workers (Worker number) event → IsWorkers workers number event
worker_works workers number Connect may = absurd may
worker_works workers number Disconnect may = absurd may
worker_works workers number (Response response) may = absurd may
worker_works workers number (Health cluster host healthy) may = absurd may
worker_works workers number (FetchTimeout timeout) may = absurd may
worker_works workers number (DrainTimeout listener) may = absurd may
worker_works workers number (TtlExpired kind name) may = absurd may
worker_works workers number Publish may = absurd may
worker_works workers number Reap may = absurd may
worker_works workers number (Accept ask) may = record { within = may; items = refl }
worker_works workers number (Close connection) may = record { within = may; items = refl }
worker_works workers number Settle may = record { within = may; items = refl }

-- who may make an event is known
pub knows : (workers : ℕ) (actor : Actor) (event : Event) (world : World) → length world.held ≡ workers → MayMake workers actor event → IsKnown actor world
knows workers Stream event world many may = tt
knows workers health_checker event world many may = tt
knows workers Timer event world many may = tt
knows workers Main event world many may = tt
knows workers (Worker worker) event world many may = subst (λ n. worker < n) (sym many) (worker_works workers worker event may).within
