use Rattle.std.proofs.Common.{◌≡◌, drop}
use Rattle.ev_chain_match.specs.Wanted.{first_protocol}
use Rattle.ev_chain_match.proofs.criteria.Criteria.protocol_wanted.Given as goal

abbrev pub invariant-loop-name : goal.invariant-loop-name
invariant-loop-name l = first_protocol l.self l.chains (drop l.name-index l.alpn) ≡ first_protocol l.self l.chains l.alpn
