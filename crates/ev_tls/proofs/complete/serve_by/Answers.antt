use Rattle.std.proofs.lemmas.Result.{on_ok_weaker}
use Rattle.ev_tls.proofs.CompleteLemmas.{serves}
use Rattle.ev_tls.proofs.complete.serve_by.Goals as goal

pub returns-clause-served : goal.returns-clause-served
returns-clause-served c =
    on_ok_weaker c.put.result
    (λ enters. serves c.args.service.now c.in_ok-copy.field-0 c.args.place c.args.served.now c.put.new.self c.in_ok-copy.ensures.equal enters) c.put.ensures
