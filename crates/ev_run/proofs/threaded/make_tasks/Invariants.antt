use Rattle.std.proofs.Common.{◌≡◌, ◌+◌, length}
use Rattle.ev_run.specs.Playing.{EachAt, IsTask}
use Rattle.ev_run.proofs.threaded.make_tasks.Given as goal

abbrev pub invariant-loop-number : goal.invariant-loop-number
invariant-loop-number g l = record {
  count : length l.tasks.items ≡ 4 + l.number;
  each : EachAt (IsTask l.script) l.tasks.items;
}
