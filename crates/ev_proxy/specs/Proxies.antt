-- What the managers know and what holds generations, together, and at which worlds they are.
use Rattle.std.specs.Prelude.{◌≡◌, ◌||◌, ℕ, ◌<◌, ⊤, if◌then◌else◌, length, List, [], ◌∷◌, ◌++◌, map, Option, None, Some, option_to_list}
use Rattle.ev_types.specs.Statuses.{is_live}
use Rattle.ev_types.specs.declared.events.Actor.{Actor}
use Rattle.ev_types.specs.declared.events.Actor.TheVariants.{Stream, Health as health_checker, Timer, Main, Worker}
use Rattle.ev_types.specs.declared.events.Event.{Event}
use Rattle.ev_types.specs.declared.events.Event.TheVariants.{Connect, Disconnect, Response, Health, FetchTimeout, DrainTimeout, TtlExpired, Publish, Reap, Accept, Close, Settle}
use Rattle.ev_types.specs.declared.journals.Format.{Format}
use Rattle.ev_types.specs.declared.rows.GenRow.{GenRow}
use Rattle.ev_model.specs.World.{World}
use Rattle.ev_model.specs.Publishing.{dead_numbers}
use Rattle.ev_indexes.specs.Tables.{row_in}
use Rattle.ev_indexes.specs.Due.{is_one_of}
use Rattle.ev_managers.specs.declared.moved.Moved.{Moved}
use Rattle.ev_drain.specs.Retired.{Retired}
use Rattle.ev_state.specs.States.{ManagesAt, over_in, without_over}
use Rattle.ev_retirement.specs.Holders.{HoldsFor}
use Rattle.ev_retirement.specs.Retiring.{noted}
use Rattle.ev_proxy.specs.declared.proxy.Proxy.{Proxy}
use Rattle.ev_proxy.specs.Changing.{IsShownBut}

-- between two events: what the managers know, and what holds generations, is that of the world, and the numbers that
-- changed are all of which the last picture doesn't show what is to be shown of them now
pub record IsAt (p : Proxy) (world : World) : Type 0 where
  pub managed : ManagesAt p.state world
  pub held : HoldsFor p.holders world
  pub shown : IsShownBut p.changed world

-- the actor is no worker, or one that the world has
abbrev pub IsKnown : Actor → World → Type 0
IsKnown Stream world = ⊤
IsKnown health_checker world = ⊤
IsKnown Timer world = ⊤
IsKnown Main world = ⊤
IsKnown (Worker worker) world = worker < length world.held

-- the drain once a row that was found is noted, where it drains or was dropped
abbrev pub noted_over : List Retired → Option GenRow → List Retired
noted_over drain None = drain
noted_over drain (Some row) = if is_live row.status then drain else noted drain row

-- the drain once the rows of these numbers are noted so, one after another
abbrev pub noted_each : List GenRow → List ℕ → List Retired → List Retired
noted_each rows [] drain = drain
noted_each rows (number ∷ numbers) drain = noted_each rows numbers (noted_over drain (row_in number rows))

-- what a step of the managers moved is noted: the managers and the deferred rows are as they were, what retired is
-- noted among what drains, whatever world the managers are at, and these too have changed
pub record Notes (old new : Proxy) (moved : Moved) : Type 0 where
  pub state : new.state ≡ old.state
  pub deferred : new.deferred ≡ old.deferred
  pub holders : (world : World) → ManagesAt old.state world
      → new.holders ≡ record old.holders { drain = noted_each world.rows moved.retired old.holders.drain }
  pub changed : (number : ℕ) → is_one_of new.changed number ≡ (is_one_of old.changed number || is_one_of moved.changed number)

-- these rows without those of these numbers that drain or were dropped
abbrev pub without_each : List ℕ → List GenRow → List GenRow
without_each [] rows = rows
without_each (number ∷ numbers) rows = without_each numbers (without_over number rows)

-- the rows of these numbers that drain or were dropped, as they go one after another
abbrev pub rows_gone : List ℕ → List GenRow → List GenRow
rows_gone [] rows = []
rows_gone (number ∷ numbers) rows = option_to_list (over_in number rows) ++ rows_gone numbers (without_over number rows)

-- the numbers of the generations that an event destroys: those that are dead where it reaps
abbrev pub numbers_reaped : Format → World → Event → List ℕ
numbers_reaped format world Connect = []
numbers_reaped format world Disconnect = []
numbers_reaped format world (Response response) = []
numbers_reaped format world (Health cluster host healthy) = []
numbers_reaped format world (FetchTimeout timeout) = []
numbers_reaped format world (DrainTimeout listener) = []
numbers_reaped format world (TtlExpired kind name) = []
numbers_reaped format world Publish = []
numbers_reaped format world Reap = dead_numbers format world
numbers_reaped format world (Accept ask) = []
numbers_reaped format world (Close connection) = []
numbers_reaped format world Settle = []

-- exactly the rows of these numbers, in their order, each as it is among the others
abbrev pub AreRowsOf : List ℕ → List GenRow → List GenRow → Type 0
AreRowsOf numbers rows taken = map Some taken ≡ map (λ number. row_in number rows) numbers
