use Rattle.std.specs.List.{AllWithin}
use Rattle.ev_journal.specs.Rows.{IsRequest}
use Rattle.ev_journal.proofs.answers.look_at_requests.Given as goal

abbrev pub invariant-loop-request : goal.invariant-loop-request
invariant-loop-request l = AllWithin IsRequest l.requests 0 l.request-index
