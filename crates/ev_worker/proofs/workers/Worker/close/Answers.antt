use Rattle.std.proofs.Common.{◌++◌, ◌∷◌, [], filter, ap, sym, ◌∙◌}
use Rattle.ev_model.specs.Connections.{closed, is_member, is_open}
use Rattle.ev_worker.specs.Batches.{BatchParts, close_line, closed_answer, closed_as}
use Rattle.ev_worker.specs.Members.{stored_members}
use Rattle.ev_worker.specs.Workers.{WorkerParts}
use Rattle.ev_worker.proofs.OpenLemmas.{close_answer, close_leaves, found_open}
use Rattle.ev_worker.proofs.BatchLemmas.{close_made}
use Rattle.ev_worker.proofs.workers.Worker.close.Goals as goal

answered : goal.returns-clause-answer
answered c =
    c.answer_by-answer.ensures
    ∙ ap closed_as
    (c.close.ensures.answer ∙ found_open c.self.inside.batch.worker c.args.conn c.self.inside.members.entries
    ∙ ap (λ (w : WorkerParts). is_open w.opened w.number c.args.conn) c.self.view_is)

-- what is open afterwards is what the machine leaves
opened : goal.returns-clause-opened
opened c n =
    ap (λ (v : WorkerParts). filter (is_member v.number n) (stored_members c.push.new.self.worker c.close.new.members.entries)) (sym c.self.view_is)
    ∙ ap (λ (b : BatchParts). filter (is_member c.self.inside.batch.worker n) (stored_members b.worker c.close.new.members.entries)) c.push.ensures
    ∙ close_leaves c.self.inside.batch.worker c.args.conn c.self.inside.members.entries c.close.new.members.entries c.self.invariant.apart c.close.ensures.apart c.close.ensures.left n
    ∙ ap (λ (v : WorkerParts). filter (is_member v.number n) (closed c.args.conn v.number v.opened).opened) c.self.view_is

pub returns-clause-answer : goal.returns-clause-answer
returns-clause-answer c = answered c

pub returns-clause-machine : goal.returns-clause-machine
returns-clause-machine c = ap closed_answer (answered c) ∙ close_answer c.args.conn c.args.self.now.number c.args.self.now.opened

pub returns-clause-opened : goal.returns-clause-opened
returns-clause-opened c = opened c

pub returns-clause-made : goal.returns-clause-made
returns-clause-made c begun made =
    close_made begun c.args.self.now _ c.args.at c.args.conn c.answer_by-answer.result
    (ap (λ (b : BatchParts). b.worker) c.push.ensures ∙ ap (λ (w : WorkerParts). w.number) c.self.view_is)
    (ap (λ (w : WorkerParts). w.picture) c.self.view_is)
    (answered c)
    (opened c)
    (ap (λ (b : BatchParts). b.lines) c.push.ensures ∙ ap (λ (w : WorkerParts). w.lines ++ close_line c.args.at c.args.conn c.answer_by-answer.result ∷ []) c.self.view_is)
    made
