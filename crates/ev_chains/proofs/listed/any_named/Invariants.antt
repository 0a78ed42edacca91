use Rattle.std.proofs.Common.{◌≡◌, take}
use Rattle.ev_chains.specs.Listed.{any_named, named_keys}
use Rattle.ev_chains.proofs.listed.any_named.Given as goal

abbrev pub invariant-loop-name : goal.invariant-loop-name
invariant-loop-name l = l.has ≡ any_named l.places (named_keys l.port (take l.name-index l.names))
