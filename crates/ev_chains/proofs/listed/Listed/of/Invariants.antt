use Rattle.std.proofs.Common.{◌≡◌, drop, map}
use Rattle.ev_chains.specs.Rows.{has_clash, match_of}
use Rattle.ev_chains.specs.Listed.{FindsFrom, HasPorts}
use Rattle.ev_chains.proofs.listed.Listed.of.Given as goal

abbrev pub invariant-loop-place : goal.invariant-loop-place
invariant-loop-place l =
    let rest = drop l.place l.rows.items in
    record {
      finds : FindsFrom l.place rest l.places;
      has_ports : HasPorts rest l.ports;
      tells : l.clash ≡ has_clash (map match_of rest);
    }
