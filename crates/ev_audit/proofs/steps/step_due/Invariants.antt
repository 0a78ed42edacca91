use Rattle.ev_audit.proofs.steps.step_due.Given as goal

abbrev pub ghost-step : goal.ghost-step
ghost-step g a = g.here
