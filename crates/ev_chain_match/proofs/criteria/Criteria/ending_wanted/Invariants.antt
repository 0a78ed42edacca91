use Rattle.std.proofs.Common.{◌≡◌, drop}
use Rattle.std.specs.Str.{str_to_ascii_lowercase}
use Rattle.ev_model.specs.Narrowing.{wildcards}
use Rattle.ev_chain_match.specs.Wanted.{first_name}
use Rattle.ev_chain_match.proofs.criteria.Criteria.ending_wanted.Given as goal

abbrev pub invariant-loop-place : goal.invariant-loop-place
invariant-loop-place l =
    first_name l.self l.chains (wildcards (drop l.place (str_to_ascii_lowercase l.name)))
    ≡ first_name l.self l.chains (wildcards (drop 1 (str_to_ascii_lowercase l.name)))
