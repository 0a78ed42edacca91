use Rattle.std.proofs.Common.{◌≡◌, ◌+◌, ◌-◌, ◌++◌}
use Rattle.ev_soak.specs.Soak.{lines_drawn, soak_script}
use Rattle.ev_soak.proofs.soaking.draw_lines.Given as goal

abbrev pub invariant-loop-place : goal.invariant-loop-place
invariant-loop-place l = l.lines.items ++ lines_drawn (l.count - l.place) (l.place + 2) l.draws.state ≡ (soak_script l.seed l.count).lines
