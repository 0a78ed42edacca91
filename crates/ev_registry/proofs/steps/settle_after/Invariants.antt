use Rattle.ev_registry.proofs.steps.settle_after.Given as goal

abbrev pub ghost-take_batch : goal.ghost-take_batch
ghost-take_batch g a = g.worlds.0

abbrev pub ghost-settle : goal.ghost-settle
ghost-settle g a = g.worlds.1
