use Rattle.std.proofs.Common.{◌∙◌, sym, subst}
use Rattle.ev_warming.specs.Forgetting.{ForgetsNeeds}
use Rattle.ev_warming.proofs.StepLemmas.{forgotten-first, forgotten-none, forgotten-once}
use Rattle.ev_warming.proofs.forgetting.forget_needs.Goals as goal

pub loop-need-init : goal.loop-need-init
loop-need-init c = λ final rest. subst (ForgetsNeeds c.args.watches.now final) c.of-needs.ensures rest

pub loop-need-preserved : goal.loop-need-preserved
loop-need-preserved c = λ final rest.
    c.loop-need.invariant final
    (forgotten-first c.loop-need.needs c.in-Some.need (sym c.next.ensures.first ∙ c.in-Some.is) c.loop-need.watches c.forget_need.new.watches final
    c.forget_need.ensures
    (subst (ForgetsNeeds c.forget_need.new.watches final) c.next.ensures.rest rest))

pub returns : goal.returns
returns c =
    forgotten-once c.args.content.now c.args.watches.now c.loop-need.watches
    (c.loop-need.invariant c.loop-need.watches (forgotten-none c.loop-need.needs (sym c.next.ensures.first ∙ c.in_default.is) c.loop-need.watches))
