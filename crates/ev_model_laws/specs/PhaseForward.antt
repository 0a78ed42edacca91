-- The phase never goes back.
use Rattle.std.specs.Prelude.{ℕ, ◌≤◌}
use Rattle.ev_types.specs.declared.rows.Phase.{Phase}
use Rattle.ev_types.specs.declared.rows.Phase.TheVariants.{Clusters, Listeners, Serving}
use Rattle.ev_types.specs.declared.events.Actor.{Actor}
use Rattle.ev_types.specs.declared.events.Event.{Event}
use Rattle.ev_types.specs.declared.journals.Format.{Format}
use Rattle.ev_model.specs.World.{World}
use Rattle.ev_model.specs.Step.{step}

-- how far a phase is
abbrev pub rank : Phase → ℕ
rank Clusters = 0
rank Listeners = 1
rank Serving = 2

-- no event leads to an earlier phase
abbrev pub NeverGoesBack : Type 0
NeverGoesBack =
    (format : Format) (world : World) (actor : Actor) (event : Event) → rank world.phase ≤ rank (step format world actor event).0.phase
