-- Live rows, by what is seen of them.
use Rattle.std.specs.Prelude.{Bool, Some}
use Rattle.ev_types.specs.declared.hosts.SocketAddress.{SocketAddress}
use Rattle.ev_types.specs.declared.rows.Live.{Live}
use Rattle.ev_model.specs.Verdicts.{listening_address, shares_address}

-- the live row listens at the address
abbrev pub is_at : SocketAddress → Live → Bool
is_at address live = shares_address (listening_address live.content) (Some address)
