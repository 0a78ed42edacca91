-- Hosts of an assignment.
use Rattle.std.specs.Prelude.{ℕ, Bool}
use Rattle.ev_types.specs.declared.hosts.Host.{Host}

-- what a host row says: the host, its weight and priority, and whether it may be chosen at all
pub record HostRowParts : Type 0 where
  pub host : Host
  pub weight : ℕ
  pub priority : ℕ
  pub usable : Bool
