-- The lines of the workers. Each has a member `worker`, below 2^32; whether the script has that many
-- workers is another question.
use Rattle.std.specs.Prelude.{ℕ, List, [], ◌∷◌, codes, Option, Some, option_map, option_and_then}
use Rattle.serde_json.specs.Data.{Data}
use Rattle.ev_types.specs.declared.events.Line.{Line}
use Rattle.ev_types.specs.declared.events.Event.{Event}
use Rattle.ev_types.specs.declared.events.Profile.{Profile}
use Rattle.ev_types.specs.declared.events.Profile.TheVariants.{Own, Envoy}
use Rattle.ev_types.specs.declared.events.Actor.TheVariants.{Worker}
use Rattle.ev_types.specs.declared.events.Event.TheVariants.{Accept, Close, Settle}
use Rattle.ev_script.specs.declared.limits.TheConstants.{MAX_WORKER}
use Rattle.ev_script.specs.Members.{whole_within, member_of}
use Rattle.ev_script.specs.LineForms.{line_at, with_only}
use Rattle.ev_script.specs.Asks.{conn_in, ask_in}

-- a worker's number
abbrev pub worker_in : Data → Option ℕ
worker_in tree = member_of (whole_within 0 MAX_WORKER) (codes "worker") tree

-- the line of a worker's event
abbrev pub worker_line : ℕ → Option Event → Data → Option Line
worker_line at event tree = option_and_then (λ worker. line_at at (Worker worker) event) (worker_in tree)

-- the members of an accept, besides its operation: by the project's own profile who connects,
-- where a connection was delivered, and what the handshake and the headers say are no members
abbrev pub accept_members : Profile → List (List ℕ)
accept_members Own = codes "worker" ∷ codes "conn" ∷ codes "address" ∷ codes "port" ∷ codes "host" ∷ codes "path" ∷ codes "pick" ∷ []
accept_members Envoy =
    codes "worker" ∷ codes "conn" ∷ codes "address" ∷ codes "port" ∷ codes "host" ∷ codes "path" ∷ codes "pick"
    ∷ codes "source" ∷ codes "redirectedTo" ∷ codes "serverName" ∷ codes "tls" ∷ codes "alpn" ∷ codes "headers" ∷ []

-- the event of what a connection asks for
abbrev pub accept_in : Data → Option Event
accept_in tree = option_map (λ ask. Accept ask) (ask_in tree)

-- `accept`: a worker accepts a connection. Its members are `worker`, `conn`, `address`, `port`, `host`,
-- `path` and `pick`, and by the profile `envoy` also `source`, `redirectedTo`, `serverName`,
-- `tls`, `alpn` and `headers`.
abbrev pub accept_line : Profile → ℕ → Data → Option Line
accept_line profile at tree = with_only (accept_members profile) tree (worker_line at (accept_in tree) tree)

-- `close`: a worker closes a connection. Its members are `worker` and `conn`.
abbrev pub close_line : ℕ → Data → Option Line
close_line at tree = with_only (codes "worker" ∷ codes "conn" ∷ []) tree (worker_line at (option_map (λ conn. Close conn) (conn_in tree)) tree)

-- `settle`: a worker takes over the last picture. Its member is `worker`.
abbrev pub settle_line : ℕ → Data → Option Line
settle_line at tree = with_only (codes "worker" ∷ []) tree (worker_line at (Some Settle) tree)
