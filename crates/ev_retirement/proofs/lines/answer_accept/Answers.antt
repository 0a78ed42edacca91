use Rattle.std.proofs.Common.{ap, sym, ◌∙◌}
use Rattle.ev_model.specs.Choice.{choice_of}
use Rattle.ev_model.specs.Dead.{picture_held}
use Rattle.ev_model.specs.declared.pictures.Picture.{Picture}
use Rattle.ev_worker.specs.Batches.{accepted_as}
use Rattle.ev_worker.specs.declared.lines.Accepted.TheVariants.{Chosen}
use Rattle.ev_worker.specs.declared.lines.Outcome.TheVariants.{Accepted}
use Rattle.ev_retirement.proofs.lines.answer_accept.Goals as goal

pub returns-then-is_open : goal.returns-then-is_open
returns-then-is_open c world pictures opened =
    ap (λ t. Accepted (accepted_as (picture_held world c.args.worker) c.args.ask.now t)) (sym c.if-is_open.true ∙ c.is_open.ensures.world world.opened opened)

pub returns : goal.returns
returns c world pictures opened =
    ap (λ choice. Accepted (Chosen choice)) (c.choose.ensures.choice ∙ ap (λ (p : Picture). choice_of p c.args.ask.now) (c.held.ensures.world world pictures))
    ∙ ap (λ t. Accepted (accepted_as (picture_held world c.args.worker) c.args.ask.now t)) (sym c.if-is_open.false ∙ c.is_open.ensures.world world.opened opened)
