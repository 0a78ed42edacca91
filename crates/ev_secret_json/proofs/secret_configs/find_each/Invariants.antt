use Rattle.std.proofs.Common.{◌≡◌, map, take}
use Rattle.serde_json.specs.View.{view}
use Rattle.ev_secret_json.specs.References.{each_joined}
use Rattle.ev_secret_json.specs.SecretConfigs.{config_secret}
use Rattle.ev_secret_json.proofs.secret_configs.find_each.Given as goal

abbrev pub invariant-loop-config : goal.invariant-loop-config
invariant-loop-config l = l.found ≡ each_joined config_secret (map view (take l.config-index l.configs))
