use Rattle.std.proofs.Common.{◌∙◌, sym, subst}
use Rattle.ev_warming.specs.Arrivals.{UnwatchesNeeds}
use Rattle.ev_warming.proofs.StepLemmas.{unwatched-first, unwatched-none, unwatched-once}
use Rattle.ev_warming.proofs.changes.unwatch.Goals as goal

pub loop-need-init : goal.loop-need-init
loop-need-init c = λ final rest. subst (UnwatchesNeeds c.args.watches.now final c.args.number) c.of-needs.ensures rest

pub loop-need-preserved : goal.loop-need-preserved
loop-need-preserved c = λ final rest.
    c.loop-need.invariant final
    (unwatched-first c.loop-need.needs c.in-Some.need (sym c.next.ensures.first ∙ c.in-Some.is) c.loop-need.watches c.unwatch_need.new.watches final c.args.number
    c.unwatch_need.ensures
    (subst (UnwatchesNeeds c.unwatch_need.new.watches final c.args.number) c.next.ensures.rest rest))

pub returns : goal.returns
returns c =
    unwatched-once c.args.content.now c.args.watches.now c.loop-need.watches c.args.number
    (c.loop-need.invariant c.loop-need.watches (unwatched-none c.loop-need.needs (sym c.next.ensures.first ∙ c.in_default.is) c.loop-need.watches c.args.number))
