use Rattle.std.specs.Arc.{arc_value}
use Rattle.ev_registry.proofs.RunSteps.{starts}
use Rattle.ev_registry.proofs.journal.Registry.of_journal.Goals as goal

pub invariant_of-result : goal.invariant_of-result
invariant_of-result c =
    starts (arc_value c.in-Ok.latest) c.in_ok-proxy.proxy c.args.format c.args.workers c.args.node.now c.in_ok-kept.kept c.args.journal.items c.as_slice.result.now
    c.requires.run c.requires.stepped c.in_ok-kept.ensures.equal c.as_slice.ensures.value (c.in-Ok.ensures _ c.in_ok-proxy.ensures) c.in_ok-proxy.ensures
