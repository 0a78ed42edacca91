use Rattle.std.proofs.Common.{◌≡◌, ◌++◌, map}
use Rattle.serde_json.specs.View.{view}
use Rattle.ev_dns.specs.Hosts.{group_tree, with_address}
use Rattle.ev_dns.proofs.hosts.push_hosts.Given as goal

abbrev pub invariant-loop-address : goal.invariant-loop-address
invariant-loop-address l =
    map view l.initial.groups.items ++ map (λ address. group_tree (with_address l.row address)) l.initial.address-iterator
    ≡ map view l.groups.items ++ map (λ address. group_tree (with_address l.row address)) l.address-iterator
