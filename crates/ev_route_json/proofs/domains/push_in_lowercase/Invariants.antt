use Rattle.std.proofs.Common.{take}
use Rattle.ev_route_json.specs.Domains.{GainsInLowercase}
use Rattle.ev_route_json.proofs.domains.push_in_lowercase.Given as goal

abbrev pub invariant-loop-domain : goal.invariant-loop-domain
invariant-loop-domain l = GainsInLowercase l.initial.texts.items l.texts.items (take l.domain-index l.domains)
