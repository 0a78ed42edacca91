use Rattle.std.proofs.Common.{◌≡◌, map, drop}
use Rattle.ev_model.specs.declared.pictures.ServedListener.{ServedListener}
use Rattle.ev_snapshot.specs.Changes.{without}
use Rattle.ev_snapshot.specs.declared.changes.ListenerChange.{ListenerChange}
use Rattle.ev_snapshot.proofs.parts.without_listeners.Given as goal

abbrev pub invariant-loop-change : goal.invariant-loop-change
invariant-loop-change l =
    without (λ (x : ServedListener). x.number) (map (λ (change : ListenerChange). change.number) (drop l.change-index l.changes)) l.left
    ≡ without (λ (x : ServedListener). x.number) (map (λ (change : ListenerChange). change.number) l.changes) l.fn.listeners
