use Rattle.ev_registry.proofs.steps.step_after.Given as goal

abbrev pub ghost-step : goal.ghost-step
ghost-step g a = g.here
