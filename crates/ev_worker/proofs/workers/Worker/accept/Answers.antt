use Rattle.std.proofs.Common.{◌++◌, ◌∷◌, [], Option, map, ap, sym, ◌∙◌, is_some}
use Rattle.std.specs.Option.{option_to_list}
use Rattle.std.specs.Arc.{arc_value}
use Rattle.ev_model.specs.Connections.{accepted, is_open}
use Rattle.ev_ledger.specs.declared.open_on.On.{On}
use Rattle.ev_worker.specs.Batches.{BatchParts, accept_line, accepted_as}
use Rattle.ev_worker.specs.Members.{on_of, stored_members}
use Rattle.ev_worker.specs.Workers.{WorkerParts}
use Rattle.ev_worker.proofs.OpenLemmas.{absent, accept_opens, found_open, opens_apart}
use Rattle.ev_worker.proofs.BatchLemmas.{accept_made}
use Rattle.ev_worker.proofs.workers.Worker.accept.Goals as goal

pub open_on-requires-clause-absent : goal.open_on-requires-clause-absent
open_on-requires-clause-absent c some =
    let closed = opens_apart c.args.self.now.picture c.args.ask (is_open c.args.self.now.opened c.args.self.now.number c.args.ask.conn)
    (sym (ap is_some (c.on_of.ensures ∙ ap on_of c.answer_to-answer.ensures)) ∙ some) in
    absent _
    (found_open c.self.inside.batch.worker c.get.result.now.conn c.self.inside.members.entries
    ∙ ap (λ (w : WorkerParts). is_open w.opened w.number c.get.result.now.conn) c.self.view_is
    ∙ (λ i. is_open c.args.self.now.opened c.args.self.now.number (c.get.ensures.value i).conn) ∙ closed)

-- what is open afterwards is what the machine opens
opened : goal.returns-clause-opened
opened c =
    let worker = c.self.inside.batch.worker in
    let es = c.self.inside.members.entries in
    ap (λ (b : BatchParts). stored_members b.worker c.open_on.new.members.entries) c.push.ensures
    ∙ ap (stored_members worker) c.open_on.ensures.entries
    ∙ (λ i. stored_members worker (es ++ map (λ (o : On). ((c.get.ensures.value i).conn, o)) (option_to_list c.on_of.result)))
    ∙ ap (λ (on : Option On). stored_members worker (es ++ map (λ (o : On). (c.args.ask.conn, o)) (option_to_list on))) (c.on_of.ensures ∙ ap on_of c.answer_to-answer.ensures)
    ∙ ap (λ (v : WorkerParts). stored_members worker (es ++ map (λ (o : On). (c.args.ask.conn, o)) (option_to_list (on_of (accepted_as v.picture c.args.ask (is_open v.opened v.number c.args.ask.conn)))))) (sym c.self.view_is)
    ∙ accept_opens (arc_value c.self.inside.snapshot) c.args.ask worker es
    ∙ ap (λ (v : WorkerParts). (accepted v.picture c.args.ask v.number v.opened).opened) c.self.view_is

pub returns-clause-opened : goal.returns-clause-opened
returns-clause-opened c = opened c

pub returns-clause-made : goal.returns-clause-made
returns-clause-made c begun made =
    accept_made begun c.args.self.now _ c.args.at c.args.ask c.answer_to-answer.result
    (ap (λ (b : BatchParts). b.worker) c.push.ensures ∙ ap (λ (w : WorkerParts). w.number) c.self.view_is)
    (ap (λ (w : WorkerParts). w.picture) c.self.view_is)
    c.answer_to-answer.ensures
    (opened c)
    (ap (λ (b : BatchParts). b.lines) c.push.ensures ∙ ap (λ (w : WorkerParts). w.lines ++ accept_line c.args.at c.args.ask c.answer_to-answer.result ∷ []) c.self.view_is)
    made
