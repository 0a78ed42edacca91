use Rattle.ev_dns.proofs.resolutions.expand.Goals as goal

pub expand_with-requires : goal.expand_with-requires
expand_with-requires c = c.new.ensures c.args.profile
