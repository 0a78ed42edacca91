use Rattle.std.proofs.Common.{◌≡◌, map}
use Rattle.std.specs.List.{range_with_len}
use Rattle.ev_soak.specs.Soak.{host_row}
use Rattle.ev_soak.proofs.parts.host_rows.Given as goal

abbrev pub invariant-loop-place : goal.invariant-loop-place
invariant-loop-place l = l.rows.items ≡ map host_row (range_with_len 1 l.place)
