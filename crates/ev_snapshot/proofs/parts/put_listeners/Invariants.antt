use Rattle.std.proofs.Common.{◌≡◌, drop}
use Rattle.ev_snapshot.specs.Changes.{put_listeners}
use Rattle.ev_snapshot.proofs.parts.put_listeners.Given as goal

abbrev pub invariant-loop-change : goal.invariant-loop-change
invariant-loop-change l = put_listeners (drop l.change-index l.changes) l.all ≡ put_listeners l.changes l.fn.listeners
