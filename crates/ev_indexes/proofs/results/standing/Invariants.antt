use Rattle.std.proofs.Common.{◌≡◌, take, cond, None}
use Rattle.indexmap.specs.IndexMap.{get}
use Rattle.ev_types.specs.SameHosts.{host_same, has_host}
use Rattle.ev_types.specs.declared.hosts.Host.{Host}
use Rattle.ev_indexes.proofs.results.standing.Given as goal

abbrev pub invariant-loop-row : goal.invariant-loop-row
invariant-loop-row l = (h : Host) → get host_same l.kept h ≡ cond (has_host h (take l.row-index l.rows)) (get host_same l.hosts h) None
