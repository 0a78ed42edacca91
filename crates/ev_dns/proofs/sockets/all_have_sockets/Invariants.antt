use Rattle.std.proofs.Common.{◌≡◌, map, drop}
use Rattle.std.specs.List.{list_all}
use Rattle.serde_json.specs.View.{view}
use Rattle.ev_dns.specs.Templates.{group_has_sockets}
use Rattle.ev_dns.proofs.sockets.all_have_sockets.Given as goal

abbrev pub invariant-loop-group : goal.invariant-loop-group
invariant-loop-group l = list_all group_has_sockets (map view l.groups) ≡ list_all group_has_sockets (map view (drop l.group-index l.groups))
