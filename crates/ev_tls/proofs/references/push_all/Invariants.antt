use Rattle.std.proofs.Common.{◌≡◌, ◌++◌, map, filter_map, take}
use Rattle.serde_json.specs.View.{view}
use Rattle.ev_tls.specs.References.{secret_named}
use Rattle.ev_tls.proofs.references.push_all.Given as goal

abbrev pub invariant-loop-config : goal.invariant-loop-config
invariant-loop-config l = l.names.items ≡ l.initial.names.items ++ filter_map secret_named (map view (take l.config-index l.configs))
