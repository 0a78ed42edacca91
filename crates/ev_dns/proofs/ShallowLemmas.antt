-- Endpoints of hosts nest by a constant.
use Rattle.std.proofs.Common.{◌≤◌, List, map, get_or, arith}
use Rattle.std.specs.Prelude.{All}
use Rattle.std.proofs.lemmas.List.Elements.{All-map}
use Rattle.serde_json.specs.Data.{Data, depth}
use Rattle.ev_types.specs.Hosts.{HostRowParts}
use Rattle.ev_types.specs.declared.events.Profile.{Profile}
use Rattle.ev_expand.specs.Fronts.{up_to, fronts}
use Rattle.ev_expand.specs.Expanding.{guarded_at}
use Rattle.ev_expand.specs.Scripts.{IsShallow, AreShallowAt}
use Rattle.ev_expand.proofs.DepthLemmas.{items_within}
use Rattle.ev_dns.specs.Hosts.{group_tree, endpoints_tree}
use Rattle.ev_dns.specs.Resolving.{resolved_hosts, dns_rules}

group_depth : (row : HostRowParts) → depth (group_tree row) ≤ 6
group_depth row = omega arith

endpoints_shallow : (rows : List HostRowParts) → IsShallow (endpoints_tree rows)
endpoints_shallow rows =
    omega (
      arith,
      items_within 6 (map group_tree rows)
          (All-map (λ (tree : Data). depth tree ≤ 6) group_tree rows (λ k other h. group_depth (get_or rows k other))),
    )

-- at each line those of all templates are shallow
pub lines_shallow : (profile : Profile) (lines : List Data) → All (AreShallowAt (dns_rules profile)) (fronts lines)
lines_shallow profile lines k front h i g less =
    endpoints_shallow (resolved_hosts (up_to (get_or (fronts lines) k front)) (get_or (guarded_at (dns_rules profile) (get_or (fronts lines) k front)) i g).key)
