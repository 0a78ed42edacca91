use Rattle.ev_state.proofs.state.State.take.Given as goal

abbrev pub ghost-enter : goal.ghost-enter
ghost-enter g a = g.here
