use Rattle.std.proofs.Common.{◌≡◌, true, take}
use Rattle.std.specs.List.{list_all}
use Rattle.ev_dns.specs.Known.{has_row}
use Rattle.ev_dns.proofs.answers.Answers.first_unanswered.Given as goal

abbrev pub invariant-loop-index : goal.invariant-loop-index
invariant-loop-index l = list_all (has_row l.self) (take l.initial.index l.rows) ≡ true → list_all (has_row l.self) (take l.index l.rows) ≡ true
