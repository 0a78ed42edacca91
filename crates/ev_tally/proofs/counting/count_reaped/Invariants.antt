use Rattle.std.proofs.Common.{◌≡◌, take, length}
use Rattle.ev_tally.specs.Tallies.{all_reaped}
use Rattle.ev_tally.proofs.counting.count_reaped.Given as goal

abbrev pub invariant-loop-entry : goal.invariant-loop-entry
invariant-loop-entry l = l.count ≡ length (all_reaped (take l.entry-index l.journal))
