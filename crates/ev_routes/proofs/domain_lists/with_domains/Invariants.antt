use Rattle.std.proofs.Common.{◌≡◌, ◌++◌, take, map}
use Rattle.ev_routes.specs.Domains.{lower_domain}
use Rattle.ev_routes.proofs.domain_lists.with_domains.Given as goal

abbrev pub invariant-loop-domain : goal.invariant-loop-domain
invariant-loop-domain l = l.domains ≡ l.initial.domains ++ map (λ text. lower_domain text l.host) (take l.domain-index l.host.domains)
