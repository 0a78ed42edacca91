use Rattle.std.proofs.Common.{◌≡◌, ◌++◌, map, filter_map}
use Rattle.serde_json.specs.View.{view}
use Rattle.ev_expand.specs.Following.{entry_due, name_due, due_shown}
use Rattle.ev_expand.proofs.following.sort_out.Given as goal

abbrev pub invariant-loop-place : goal.invariant-loop-place
invariant-loop-place l =
    (map view l.resources.items ≡ map view l.initial.resources.items ++ filter_map (entry_due l.prefix l.version) (map due_shown l.yielded))
    × (map view l.removed.items ≡ map view l.initial.removed.items ++ filter_map (name_due l.prefix) (map due_shown l.yielded))
