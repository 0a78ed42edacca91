use Rattle.std.proofs.Common.{◌≡◌, map, take}
use Rattle.serde_json.specs.View.{view}
use Rattle.ev_secret_json.specs.References.{each_joined}
use Rattle.ev_listener_json.specs.ChainExtensions.{network_extensions}
use Rattle.ev_listener_json.proofs.chain_extensions.find_each.Given as goal

abbrev pub invariant-loop-filter : goal.invariant-loop-filter
invariant-loop-filter l = l.found ≡ each_joined network_extensions (map view (take l.filter-index l.filters))
