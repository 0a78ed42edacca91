-- What a registry keeps of its journal, and of what is known beside it.
use Rattle.std.specs.Prelude.{◌≡◌, ℕ, ⊤, Bool, false, List, [], ◌∷◌, ◌++◌, map, Some}
use Rattle.ev_types.specs.Events.{MayMake}
use Rattle.ev_types.specs.declared.events.Actor.TheVariants.{Worker}
use Rattle.ev_types.specs.declared.events.Answer.TheVariants.{Settled}
use Rattle.ev_types.specs.declared.events.Entry.{Entry}
use Rattle.ev_types.specs.declared.events.Event.{Event}
use Rattle.ev_types.specs.declared.events.Event.TheVariants.{Settle}
use Rattle.ev_types.specs.declared.journals.Format.{Format}
use Rattle.ev_types.specs.declared.rows.GenRow.{GenRow}
use Rattle.ev_model.specs.World.{World, opening}
use Rattle.ev_model.specs.Dead.{last_picture}
use Rattle.ev_model.specs.declared.pictures.Picture.{Picture}
use Rattle.ev_model.specs.Runs.{IsRun}
use Rattle.ev_model.specs.Step.{step}
use Rattle.ev_model_laws.specs.Drawing.{NumbersSuffice}
use Rattle.ev_indexes.specs.Tables.{row_in}
use Rattle.ev_actors.specs.Journals.{JournalParts, world_now}
use Rattle.ev_proxy.specs.declared.proxy.Proxy.{Proxy}
use Rattle.ev_proxy.specs.Proxies.{IsAt, numbers_reaped}

-- what contracts see of a registry: what was done, the rows that reapings removed, until they are taken,
-- and whether the last event ran out of memory, so that what is known has to be made anew
pub record RegistryParts : Type 0 where
  pub journaled : JournalParts
  pub deferred : List GenRow
  pub is_lost : Bool

-- the actor may make the event in this world, and the numbers suffice for its resources, where it brings some
pub record MayStep (workers : ℕ) (world : World) (entry : Entry) : Type 0 where
  pub allowed : MayMake workers entry.actor entry.event
  pub room : NumbersSuffice world entry.event

-- so it was with each of these entries, from this world on
abbrev pub HaveStepped : Format → ℕ → World → List Entry → Type 0
HaveStepped format workers world [] = ⊤
HaveStepped format workers world (entry ∷ entries) =
    MayStep workers world entry × HaveStepped format workers (step format world entry.actor entry.event).0 entries

-- a worker's settle that closed these connections, moved these and led to this version, as an entry
abbrev pub settle_told : ℕ → ℕ → ℕ → List ℕ → List ℕ → ℕ → Entry
settle_told worker at n closed moved version =
    record { actor = Worker worker; at = at; step = n; event = Settle; answer = Settled closed moved version }

-- The journal is a run, and what is known is that of the world after it, where it wasn't lost;
-- the last picture is known in any case.
pub record FollowsJournal (is_lost : Bool) (picture : Picture) (proxy : Proxy) (parts : JournalParts) : Type 0 where
  pub run : IsRun parts.format parts.workers parts.node parts.journal
  pub stepped : HaveStepped parts.format parts.workers (opening parts.workers parts.node) parts.journal
  pub latest : picture ≡ last_picture (world_now parts)
  pub at : is_lost ≡ false → IsAt proxy (world_now parts)

-- after the rows that waited come those of these numbers, in their order, each as it is among the others
abbrev pub AreDeferred : List ℕ → List GenRow → List GenRow → List GenRow → Type 0
AreDeferred numbers rows before after = map Some after ≡ map Some before ++ map (λ number. row_in number rows) numbers

-- after the rows that waited come those of the generations that the event destroys in the world
-- that a journal has led to
abbrev pub DefersReaped : Event → JournalParts → List GenRow → List GenRow → Type 0
DefersReaped event parts before after = AreDeferred (numbers_reaped parts.format (world_now parts) event) (world_now parts).rows before after
