use Rattle.std.proofs.Common.{List, take, get_or, refl, sym, subst}
use Rattle.std.proofs.lemmas.List.{take_more}
use Rattle.ev_types.specs.declared.events.Entry.{Entry}
use Rattle.ev_model.specs.World.{World, opening}
use Rattle.ev_model.specs.Runs.{world_after}
use Rattle.ev_model.proofs.RunLemmas.{world_after-more}
use Rattle.ev_proxy.specs.Proxies.{IsAt}
use Rattle.ev_registry.specs.Registries.{MayStep}
use Rattle.ev_registry.proofs.RunSteps.{stepped_at}
use Rattle.ev_registry.proofs.steps.step_again.Goals as goal

pub step_after-requires : goal.step_after-requires
step_after-requires c =
    let before : World = world_after c.args.past.format (opening c.args.past.workers c.args.past.node.now) (take c.args.place c.args.past.journal.now) in
    let may : MayStep c.args.past.workers before (get_or c.args.past.journal.now c.args.place c.index-past-place.result) =
    stepped_at c.args.past.format c.args.past.workers (opening c.args.past.workers c.args.past.node.now) c.args.past.journal.now c.args.place c.index-past-place.result c.requires.stepped c.requires.within in
    (refl, (c.requires.at, (may.allowed, may.room)))

pub returns : goal.returns
returns c =
    let begun : World = opening c.args.past.workers c.args.past.node.now in
    let entry : Entry = get_or c.args.past.journal.now c.args.place c.index-past-place.result in
    subst (λ (es : List Entry). IsAt c.step_after.new.proxy (world_after c.args.past.format begun es))
    (sym (take_more c.args.past.journal.now c.args.place c.index-past-place.result c.requires.within))
    (subst (IsAt c.step_after.new.proxy) (sym (world_after-more c.args.past.format begun (take c.args.place c.args.past.journal.now) entry)) c.in_ok-step_after.ensures.at)
