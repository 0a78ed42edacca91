use Rattle.std.proofs.Common.{◌≡◌, map, drop}
use Rattle.std.specs.List.{list_all}
use Rattle.serde_json.specs.View.{view}
use Rattle.ev_dns.specs.Templates.{has_socket}
use Rattle.ev_dns.proofs.sockets.hosts_have_sockets.Given as goal

abbrev pub invariant-loop-host : goal.invariant-loop-host
invariant-loop-host l = list_all has_socket (map view l.hosts) ≡ list_all has_socket (map view (drop l.host-index l.hosts))
