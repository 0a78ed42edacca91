use Rattle.std.proofs.Common.{◌≡◌, map, take}
use Rattle.serde_json.specs.View.{view}
use Rattle.ev_dns.specs.Hosts.{group_tree, resolved_rows}
use Rattle.ev_dns.specs.Known.{known_addresses}
use Rattle.ev_dns.specs.Templates.{template_rows}
use Rattle.ev_dns.proofs.hosts.endpoints_value.Given as goal

abbrev pub invariant-loop-row : goal.invariant-loop-row
invariant-loop-row l = map view l.groups.items ≡ map group_tree (resolved_rows (known_addresses l.answers) (take l.row-index (template_rows l.key)))
