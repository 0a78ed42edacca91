use Rattle.ev_proxy.proofs.proxy.Proxy.step.Given as goal

abbrev pub ghosts-led : goal.ghosts-led
ghosts-led g a = record { name = a.blank.name; parts = a.blank.parts }

abbrev pub ghost-led : goal.ghost-led
ghost-led g a = g.here
