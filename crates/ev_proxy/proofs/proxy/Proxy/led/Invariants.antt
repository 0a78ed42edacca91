use Rattle.ev_proxy.proofs.proxy.Proxy.led.Given as goal

abbrev pub ghost-respond : goal.ghost-respond
ghost-respond g a = g.here

abbrev pub ghost-drain_timeout : goal.ghost-drain_timeout
ghost-drain_timeout g a = g.here

abbrev pub ghost-publish : goal.ghost-publish
ghost-publish g a = g.here

abbrev pub ghost-reap : goal.ghost-reap
ghost-reap g a = g.here

abbrev pub ghost-accept : goal.ghost-accept
ghost-accept g a = g.here

abbrev pub ghost-close : goal.ghost-close
ghost-close g a = g.here

abbrev pub ghost-settle_by : goal.ghost-settle_by
ghost-settle_by g a = g.here
