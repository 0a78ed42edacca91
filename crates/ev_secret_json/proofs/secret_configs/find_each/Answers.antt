use Rattle.ev_secret_json.specs.SecretConfigs.{config_secret}
use Rattle.ev_secret_json.proofs.ReferenceLemmas.{each_more, each_all}
use Rattle.ev_secret_json.proofs.secret_configs.find_each.Goals as goal

pub loop-config-preserved : goal.loop-config-preserved
loop-config-preserved c =
    each_more config_secret c.args.configs.now c.loop-config.config-index c.config-item.result c.loop-config.found _ _ c.loop-config-test.true c.config-item.is c.loop-config.invariant
    c.in_ok-here.ensures c.in_ok-found.ensures

pub returns : goal.returns
returns c = each_all config_secret c.args.configs.now c.loop-config.config-index c.loop-config.found c.loop-config-test.false c.loop-config.invariant
