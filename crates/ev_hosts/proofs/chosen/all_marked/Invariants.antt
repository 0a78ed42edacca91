use Rattle.std.proofs.Common.{◌≡◌, true, map, take}
use Rattle.ev_types.specs.Hosts.{HostRowParts}
use Rattle.ev_hosts.proofs.chosen.all_marked.Given as goal

abbrev pub invariant-loop-row : goal.invariant-loop-row
invariant-loop-row l = l.marks ≡ map (λ (r : HostRowParts). true) (take l._row-index l.rows)
