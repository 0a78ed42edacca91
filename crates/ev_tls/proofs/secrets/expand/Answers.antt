use Rattle.ev_tls.proofs.secrets.expand.Goals as goal

pub expand_with-requires : goal.expand_with-requires
expand_with-requires c = c.new.ensures c.args.profile
