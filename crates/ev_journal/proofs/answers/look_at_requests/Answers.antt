use Rattle.std.proofs.Common.{arith}
use Rattle.std.proofs.lemmas.List.Elements.{AllWithin-more, at_read}
use Rattle.ev_journal.specs.Rows.{IsRequest}
use Rattle.ev_journal.proofs.answers.look_at_requests.Goals as goal

pub loop-request-preserved : goal.loop-request-preserved
loop-request-preserved c =
    AllWithin-more IsRequest c.args.requests.now 0 c.loop-request.request-index c.loop-request.invariant
    (at_read c.args.requests.now IsRequest c.loop-request.request-index c.request-item.result c.loop-request-test.true c.request-item.is c.look_at_request.ensures)

pub returns : goal.returns
returns c = λ k d within. c.loop-request.invariant k d (omega arith) (omega (arith, within, c.loop-request-test.false))
