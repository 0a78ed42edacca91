use Rattle.std.proofs.Common.{◌≡◌, take}
use Rattle.ev_model.specs.Watching.{watched_of}
use Rattle.ev_model.specs.World.{World}
use Rattle.ev_managers.specs.Managers.{StandFor}
use Rattle.ev_subscription.specs.Asked.{names_by}
use Rattle.ev_state.proofs.state.State.watched_names.Given as goal

abbrev pub invariant-loop-kind : goal.invariant-loop-kind
invariant-loop-kind l = (world : World) → StandFor l.self.managers world → l.watched.items ≡ names_by (take l.kind-index l.kinds) (watched_of world)
