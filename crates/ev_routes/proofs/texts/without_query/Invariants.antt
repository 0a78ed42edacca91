use Rattle.std.proofs.Common.{◌≡◌, ◌==◌, ◌+◌, drop, not}
use Rattle.std.specs.List.{prefix_len}
use Rattle.ev_routes.proofs.texts.without_query.Given as goal

abbrev pub invariant-loop-place : goal.invariant-loop-place
invariant-loop-place l = prefix_len (λ byte. not (byte == 63)) l.path ≡ l.place + prefix_len (λ byte. not (byte == 63)) (drop l.place l.path)
