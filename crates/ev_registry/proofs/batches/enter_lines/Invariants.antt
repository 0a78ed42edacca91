use Rattle.std.proofs.Common.{◌≡◌, take}
use Rattle.ev_worker.specs.Batches.{entries_of}
use Rattle.ev_registry.proofs.batches.enter_lines.Given as goal

abbrev pub invariant-loop-line : goal.invariant-loop-line
invariant-loop-line l = l.entries.items ≡ entries_of l.number l.snapshot (take l.line-index l.line-items)
