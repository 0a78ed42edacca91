use Rattle.std.proofs.Common.{take}
use Rattle.ev_types.specs.SameHosts.{ArePlacesIn}
use Rattle.ev_types.proofs.host_index.HostIndex.of.Given as goal

abbrev pub invariant-loop-place : goal.invariant-loop-place
invariant-loop-place l = ArePlacesIn (take l.place l.rows) l.places.entries
