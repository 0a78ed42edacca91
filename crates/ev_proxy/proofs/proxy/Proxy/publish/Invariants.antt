use Rattle.ev_proxy.proofs.proxy.Proxy.publish.Given as goal

abbrev pub ghost-changes : goal.ghost-changes
ghost-changes g a = g.here
