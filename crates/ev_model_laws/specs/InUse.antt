-- What is in use in a run: nothing that was reaped, and no connection but those
-- that accepts have opened. This project's own.
use Rattle.std.specs.Prelude.{ℕ, ◌≡◌, ◌+◌, ◌<◌, ◌≤◌, false, IsTrue, length, drop, take, Contains, Bool, ◌&&◌, ◌==◌}
use Rattle.std.specs.List.{list_any}
use Rattle.ev_types.specs.declared.events.Actor.TheVariants.{Worker}
use Rattle.ev_model.specs.World.{OpenMember}
use Rattle.ev_model.specs.Dead.{is_in_use}
use Rattle.ev_model.specs.Entries.{releases}
use Rattle.ev_model.specs.Picture.{has_number}
use Rattle.ev_model.specs.Laws.{Told, world_told, Opened}
use Rattle.ev_model_laws.specs.Kept.{numbers_gone}
use Rattle.ev_model_laws.specs.RunLaws.{IsRunTold}
use Rattle.ev_types.specs.declared.events.Actor.{Actor}
use Rattle.ev_types.specs.declared.events.Answer.{Answer}
use Rattle.ev_types.specs.declared.events.Answer.TheVariants.{Done, Settled}
use Rattle.ev_types.specs.declared.events.Event.{Event}
use Rattle.ev_types.specs.declared.events.Event.TheVariants.{Close, Settle}
use Rattle.ev_types.specs.declared.events.Entry.{Entry}
use Rattle.ev_model.specs.Operations.{actor_same}

-- after the first k entries no picture in use shows a generation that these have reaped,
-- and no connection is open on one
abbrev pub UsesNothingGone : Told → ℕ → Type 0
UsesNothingGone told k =
    (number : ℕ) → IsTrue (is_in_use (world_told told k) number) → has_number number (numbers_gone (take k told.journal)) ≡ false

-- by a close that was done, or by a settle
abbrev pub closes_connection : ℕ → Event → Answer → Bool
closes_connection connection (Close closed) Done = closed == connection
closes_connection connection Settle (Settled closed moved version) = has_number connection closed
closes_connection connection event answer = false

-- by the entry this actor's connection is closed
abbrev pub closes : Actor → ℕ → Entry → Bool
closes actor connection entry = actor_same entry.actor actor && closes_connection connection entry.event entry.answer

-- an accept before place k opened the connection on a listener, and no entry since has closed it;
-- where none has moved it on, it is on that listener
pub record WasOpened (told : Told) (k : ℕ) (member : OpenMember) : Type 0 where
  pub place : ℕ
  pub before : place < k
  pub listener : ℕ
  pub opened : Opened told place (Worker member.worker) listener member.connection
  pub kept : list_any (closes (Worker member.worker) member.connection) (drop (place + 1) (take k told.journal)) ≡ false
  pub stays : list_any (releases (Worker member.worker) member.connection) (drop (place + 1) (take k told.journal)) ≡ false
      → member.listener ≡ listener

-- so was each connection that is open after the first k entries
abbrev pub OpensWhatIsOpen : Told → ℕ → Type 0
OpensWhatIsOpen told k = (member : OpenMember) → Contains (world_told told k).opened member → WasOpened told k member

-- nothing that is in use in a run was reaped before
abbrev pub RunsUseNothingGone : Type 0
RunsUseNothingGone = (told : Told) → IsRunTold told → (k : ℕ) → k ≤ length told.journal → UsesNothingGone told k

-- each open connection of a run was opened by an accept and not closed since
abbrev pub RunsOpenWhatIsOpen : Type 0
RunsOpenWhatIsOpen = (told : Told) → IsRunTold told → (k : ℕ) → k ≤ length told.journal → OpensWhatIsOpen told k
