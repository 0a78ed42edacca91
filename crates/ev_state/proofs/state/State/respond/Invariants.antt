use Rattle.ev_state.proofs.state.State.respond.Given as goal

abbrev pub ghost-take : goal.ghost-take
ghost-take g a = g.here
