use Rattle.std.proofs.Common.{◌≡◌, drop, map, Some}
use Rattle.ev_chains.specs.Names.{wild_from}
use Rattle.ev_chains.specs.Rows.{first_named}
use Rattle.ev_chains.specs.Listed.{number_in, number_wild}
use Rattle.ev_chains.proofs.listed.Listed.choose_wild.Given as goal

-- no form before the place was found
abbrev pub invariant-loop-place : goal.invariant-loop-place
invariant-loop-place l =
    number_in (first_named l.port (map Some (wild_from (drop l.place l.name))) l.self)
    ≡ number_wild l.port l.name l.self
