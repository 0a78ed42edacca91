use Rattle.ev_proxy.proofs.proxy.Proxy.settle_by.Given as goal

abbrev pub ghost-settle : goal.ghost-settle
ghost-settle g a = g.here
