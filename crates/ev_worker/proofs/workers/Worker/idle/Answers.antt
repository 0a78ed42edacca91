use Rattle.std.proofs.Common.{◌≡◌, [], length, ap, sym, ◌∙◌}
use Rattle.ev_types.specs.Same.{numbers_decide}
use Rattle.ev_worker.specs.Members.{stored_members}
use Rattle.ev_worker.specs.Workers.{WorkerParts}
use Rattle.ev_worker.proofs.OpenLemmas.{empty_of, none_same, none_shown}
use Rattle.ev_worker.proofs.workers.Worker.idle.Goals as goal

pub returns-then-is_empty-clause-rests : goal.returns-then-is_empty-clause-rests
returns-then-is_empty-clause-rests c =
    let lines : c.args.self.now.lines ≡ [] =
    ap (λ (w : WorkerParts). w.lines) (sym c.self.view_is) ∙ sym c.lines.ensures.lines
    ∙ empty_of c.lines.result.now ((numbers_decide (length c.lines.result.now) 0).0 (sym c.is_empty.ensures ∙ c.if-is_empty.true)) in (
      λ t. (
        lines,
        none_same c.args.self.now.number c.args.self.now.opened
            (ap (λ (w : WorkerParts). w.opened) (sym c.self.view_is)
            ∙ ap (stored_members c.self.inside.batch.worker) (empty_of c.self.inside.members.entries (c.is_empty-then-is_empty.ensures.0 t))),
      ),
      λ idle.
          c.is_empty-then-is_empty.ensures.1
          (ap length (none_shown c.args.self.now.number c.self.inside.batch.worker c.args.self.now.opened c.self.inside.members.entries
          (ap (λ (w : WorkerParts). w.number) c.self.view_is) (ap (λ (w : WorkerParts). w.opened) c.self.view_is) idle.1)),
    )
