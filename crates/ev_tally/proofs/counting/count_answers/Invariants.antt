use Rattle.std.proofs.Common.{◌≡◌, ◌≤◌, take}
use Rattle.ev_tally.specs.Tallies.{is_counted, count_answers}
use Rattle.ev_tally.proofs.counting.count_answers.Given as goal

abbrev pub invariant-loop-entry : goal.invariant-loop-entry
invariant-loop-entry l = (l.count ≡ count_answers (is_counted l.counted) (take l.entry-index l.journal)) × (l.count ≤ l.entry-index)
