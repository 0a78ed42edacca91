use Rattle.std.proofs.Common.{◌≡◌, map, take}
use Rattle.serde_json.specs.View.{view}
use Rattle.ev_secret_json.specs.References.{each_joined}
use Rattle.ev_secret_json.specs.TransportSockets.{transport_secrets}
use Rattle.ev_cluster_json.proofs.sockets.find_match_secrets.Given as goal

abbrev pub invariant-loop-element : goal.invariant-loop-element
invariant-loop-element l = l.found ≡ each_joined transport_secrets (map view (take l.element-index l.matches))
