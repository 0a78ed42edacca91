use Rattle.std.proofs.Common.{◌≡◌, ◌||◌, ◌&&◌, ℕ, List, nat_eq, take}
use Rattle.std.specs.List.{list_any}
use Rattle.std.specs.Str.{bytes_eq}
use Rattle.ev_types.specs.Hosts.{HostRowParts}
use Rattle.ev_dns.specs.Known.{stands_under}
use Rattle.ev_dns.specs.Templates.{template_rows}
use Rattle.ev_dns.proofs.places.Places.put_all.Given as goal

abbrev pub invariant-loop-row : goal.invariant-loop-row
invariant-loop-row l =
    (other : List ℕ) (n : ℕ) → stands_under l.self other n
    ≡ ((list_any (λ (row : HostRowParts). bytes_eq row.host.address other) (take l.row-index (template_rows l.key)) && nat_eq l.place n) || stands_under l.initial.self other n)
