use Rattle.std.proofs.Common.{[], length, ap, ◌∙◌}
use Rattle.ev_model.specs.World.{World}
use Rattle.ev_actors.proofs.SettleLemmas.{held_now}
use Rattle.ev_registry.specs.Pasts.{parts_of}
use Rattle.ev_registry.proofs.EventLemmas.{knows}
use Rattle.ev_registry.proofs.steps.step_after.Goals as goal

pub step-requires : goal.step-requires
step-requires g c = (
  c.requires.1.0,
  (
    knows c.args.past.workers c.args.actor c.args.event.now g.here
        (ap (λ (w : World). length w.held) c.requires.0 ∙ held_now (parts_of c.args.past) []) c.requires.1.1.0,
    c.requires.1.1.1,
  ),
)
