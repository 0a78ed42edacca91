use Rattle.std.proofs.Common.{◌≡◌, Some}
use Rattle.ev_types.specs.Ips.{ranges_about}
use Rattle.ev_chain_match.specs.Wanted.{first_range}
use Rattle.ev_chain_match.proofs.Brought.{ranges_below}
use Rattle.ev_chain_match.proofs.criteria.Criteria.range_about.Given as goal

abbrev pub invariant-loop-length : goal.invariant-loop-length
invariant-loop-length l = first_range l.by l.self l.chains (ranges_below l.ip l.length) ≡ first_range l.by l.self l.chains (ranges_about (Some l.ip))
