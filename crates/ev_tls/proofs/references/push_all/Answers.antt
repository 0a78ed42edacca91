use Rattle.serde_json.specs.View.{view}
use Rattle.ev_tls.specs.References.{secret_named}
use Rattle.ev_tls.proofs.PushLemmas.{given_more}
use Rattle.ev_tls.proofs.references.push_all.Goals as goal

pub loop-config-preserved : goal.loop-config-preserved
loop-config-preserved c =
    given_more view secret_named c.args.configs.now c.loop-config.config-index c.config-item.result _ c.loop-config.names.items _ c.loop-config-test.true c.config-item.is c.loop-config.invariant
    c.in_ok-push_named.ensures
