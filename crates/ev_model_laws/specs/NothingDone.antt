-- An event that is answered as having done nothing has done nothing.
use Rattle.std.specs.Prelude.{◌≡◌, Bool, true, false, IsTrue}
use Rattle.ev_types.specs.declared.events.Actor.{Actor}
use Rattle.ev_types.specs.declared.events.Event.{Event}
use Rattle.ev_types.specs.declared.events.Answer.{Answer}
use Rattle.ev_types.specs.declared.events.Answer.TheVariants.{Ignored, Done, Moved, Replied, Version, Unchanged, Reaped, InUse, NoListener, NoChain, On, NotOpen, Settled}
use Rattle.ev_types.specs.declared.journals.Format.{Format}
use Rattle.ev_model.specs.World.{World}
use Rattle.ev_model.specs.Step.{step}

-- the answer says that nothing was done
abbrev pub is_nothing_done : Answer → Bool
is_nothing_done Ignored = true
is_nothing_done Done = false
is_nothing_done (Moved requests) = false
is_nothing_done (Replied requests verdicts) = false
is_nothing_done (Version version) = false
is_nothing_done Unchanged = true
is_nothing_done (Reaped numbers) = false
is_nothing_done InUse = true
is_nothing_done NoListener = false
is_nothing_done NoChain = false
is_nothing_done (On listener chain way) = false
is_nothing_done NotOpen = true
is_nothing_done (Settled closed moved version) = false

-- where the answer says that nothing was done, the world stays as it was
abbrev pub LeavesAsItWas : Type 0
LeavesAsItWas =
    (format : Format) (world : World) (actor : Actor) (event : Event)
    → IsTrue (is_nothing_done (step format world actor event).1) → (step format world actor event).0 ≡ world
