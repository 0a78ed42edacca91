use Rattle.std.proofs.Common.{◌≡◌, ◌∙◌, ℕ, List, take, length, ap, subst, arith}
use Rattle.std.proofs.Math.Seq.{take-length}
use Rattle.std.proofs.lemmas.Result.{IfOk-from_err}
use Rattle.ev_types.specs.declared.events.Entry.{Entry}
use Rattle.ev_model.specs.World.{opening}
use Rattle.ev_model.specs.Runs.{world_after}
use Rattle.ev_actors.specs.Journals.{world_now}
use Rattle.ev_proxy.specs.Proxies.{IsAt}
use Rattle.ev_registry.specs.Pasts.{parts_of}
use Rattle.ev_registry.proofs.steps.make_anew.Goals as goal

pub returns-in_err-step_again : goal.returns-in_err-step_again
returns-in_err-step_again c =
    IfOk-from_err c.from_residual-in_err-step_again.result (λ proxy. IsAt proxy (world_now (parts_of c.args.past))) c.from_residual-in_err-step_again.ensures.0

pub returns : goal.returns
returns c =
    let last : c.loop-place.place ≡ length c.args.past.journal.now = omega arith in
    subst (λ (es : List Entry). IsAt c.loop-place.proxy (world_after c.args.past.format (opening c.args.past.workers c.args.past.node.now) es))
    (ap (λ (n : ℕ). take n c.args.past.journal.now) last ∙ take-length c.args.past.journal.now) c.loop-place.invariant
