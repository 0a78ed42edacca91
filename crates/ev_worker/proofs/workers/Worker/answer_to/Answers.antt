use Rattle.std.proofs.Common.{◌∙◌, nat_eq, is_some, ap, sym}
use Rattle.std.specs.Map.{lookup}
use Rattle.std.specs.Arc.{arc_value}
use Rattle.ev_model.specs.Choice.{choice_of}
use Rattle.ev_model.specs.Connections.{is_open}
use Rattle.ev_model.specs.declared.pictures.Picture.{Picture}
use Rattle.ev_worker.specs.Batches.{accepted_as}
use Rattle.ev_worker.specs.declared.lines.Accepted.TheVariants.{Chosen}
use Rattle.ev_worker.specs.Workers.{WorkerParts}
use Rattle.ev_worker.proofs.OpenLemmas.{found_open}
use Rattle.ev_worker.proofs.workers.Worker.answer_to.Goals as goal

pub returns-then-contains_key : goal.returns-then-contains_key
returns-then-contains_key c =
    let es = c.self.inside.members.entries in
    let is = sym (found_open c.self.inside.batch.worker c.args.ask.now.conn es)
    ∙ (λ i. is_some (lookup (nat_eq (sym c.get-ask.ensures.value i).conn) es)) ∙ sym c.contains_key.ensures ∙ c.if-contains_key.true in
    sym
    (ap (λ (w : WorkerParts). accepted_as c.args.self.now.picture c.args.ask.now (is_open w.opened w.number c.args.ask.now.conn)) (sym c.self.view_is)
    ∙ ap (accepted_as c.args.self.now.picture c.args.ask.now) is)

pub returns-else-contains_key : goal.returns-else-contains_key
returns-else-contains_key c =
    let es = c.self.inside.members.entries in
    let is = sym (found_open c.self.inside.batch.worker c.args.ask.now.conn es)
    ∙ (λ i. is_some (lookup (nat_eq (sym c.get-ask.ensures.value i).conn) es)) ∙ sym c.contains_key.ensures ∙ c.if-contains_key.false in
    ap Chosen (c.choose.ensures.choice ∙ (λ i. choice_of (c.deref.ensures i) (c.get-ask.ensures.value i)))
    ∙ sym
    (ap (λ (w : WorkerParts). accepted_as w.picture c.args.ask.now (is_open w.opened w.number c.args.ask.now.conn)) (sym c.self.view_is)
    ∙ ap (accepted_as (arc_value c.self.inside.snapshot) c.args.ask.now) is)
