use Rattle.std.proofs.Common.{ℕ, ◌<◌, length, sym, subst, ◌∙◌}
use Rattle.ev_actors.specs.Journals.{entries_made}
use Rattle.ev_registry.specs.Pasts.{parts_of}
use Rattle.ev_registry.proofs.BatchSteps.{known_after, leads_behind}
use Rattle.ev_registry.proofs.steps.settle_after.Goals as goal

pub settle-requires : goal.settle-requires
settle-requires g c = (
  leads_behind c.take_batch.new.self (parts_of c.args.past) c.args.worker.now g.worlds.0 g.worlds.1 c.batch.result.now.worker c.batch.result.now.lines
      c.batch.ensures.worker c.batch.ensures.lines c.requires.0 c.requires.1.0 c.requires.1.1.1.0 c.in_ok-take_batch.ensures.at,
  subst (λ (n : ℕ). n < length g.worlds.1.held) (sym (c.worker.ensures ∙ c.batch-2.ensures.worker))
      (known_after (parts_of c.args.past) c.args.worker.now.number g.worlds.1 (entries_made c.args.worker.now) c.requires.1.0 c.requires.1.1.1.1),
)
