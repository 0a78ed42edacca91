use Rattle.std.proofs.Common.{◌≡◌, take}
use Rattle.ev_model.specs.Finding.{journal_told}
use Rattle.ev_dump.proofs.told.entries_told.Given as goal

abbrev pub invariant-loop-row : goal.invariant-loop-row
invariant-loop-row l = l.entries.items ≡ journal_told l.script (take l.row-index l.rows)
