use Rattle.std.proofs.Common.{take}
use Rattle.ev_chains.specs.Listed.{PutsUnder, named_keys}
use Rattle.ev_chains.proofs.listed.put_names.Given as goal

abbrev pub invariant-loop-name : goal.invariant-loop-name
invariant-loop-name l = PutsUnder (named_keys l.port (take l.name-index l.names)) l.place l.initial.places l.places
