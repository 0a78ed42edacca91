use Rattle.ev_audit.proofs.walk.Walk.pass.Given as goal

abbrev pub ghost-step_due : goal.ghost-step_due
ghost-step_due g a = g.here
