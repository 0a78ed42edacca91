-- What holds of every list of events: connections stay on the chain that took them
-- until they are closed, and chains stay that each version of the listener has. Source:
-- Envoy's listener manager, which updates filter chains in place.
use Rattle.std.specs.Prelude.{ℕ, suc, zero, ◌≡◌, ◌<◌, ◌≤◌, ◌==◌, ◌&&◌, ◌⊎◌, ◌↔◌, Bool, true, false, List, [], ◌∷◌, length, take, Option, Some, None}
use Rattle.std.specs.List.{list_any}
use Rattle.serde_json.specs.Data.{Data}
use Rattle.ev_model.specs.Picture.{has_number}
use Rattle.ev_ledger.specs.Members.{is_open_at}
use Rattle.ev_chains.specs.declared.chains.ChainAnswer.TheVariants as taken
use Rattle.ev_chains.specs.declared.rows.Chain.{Chain}
use Rattle.ev_chains.specs.declared.rows.Row.{Row}
use Rattle.ev_chains.specs.Rows.{chain_same}
use Rattle.ev_chains.specs.Listeners.{chains_in, rule_told}
use Rattle.ev_chains.specs.State.{ChainState, opening}
use Rattle.ev_chains.specs.Steps.{Event, Update, Accept, Close, DrainTimeout, accept, state_after}

-- ---- events by their places

abbrev pub event_at : List Event → ℕ → Option Event
event_at [] k = None
event_at (event ∷ events) zero = Some event
event_at (event ∷ events) (suc k) = event_at events k

-- the state after the first k events
abbrev pub state_at : List Event → ℕ → ChainState
state_at events k = state_after opening (take k events)

-- ---- connections

-- the connection of this number is open on the chain of this number
abbrev pub is_on : ℕ → ℕ → ChainState → Bool
is_on conn number state = is_open_at number 0 conn state.opened

-- the event at the place is a connection of this number, and this chain takes it
pub record TakesAt (events : List Event) (place conn number : ℕ) : Type 0 where
  pub port : ℕ
  pub server : List ℕ
  pub at : event_at events place ≡ Some (Accept conn port server)
  pub answer : (accept conn server port (state_at events place)).1 ≡ taken.Chain number

-- the event at the place closes the connection, or is a drain timeout while the chain drains
abbrev pub ClosesAt : List Event → ℕ → ℕ → ℕ → Type 0
ClosesAt events place conn number =
    (event_at events place ≡ Some (Close conn))
    ⊎ ((event_at events place ≡ Some DrainTimeout) × (has_number number (state_at events place).draining ≡ true))

-- the chain took the connection before the place, and nothing has closed it since
pub record HasStayed (events : List Event) (place conn number : ℕ) : Type 0 where
  pub start : ℕ
  pub before : start < place
  pub takes : TakesAt events start conn number
  pub stays : (other : ℕ) → start < other → other < place → ¬ (ClosesAt events other conn number)

-- a connection is open on a chain exactly where the chain took it and nothing has closed it since
abbrev pub ConnectionsStay : Type 0
ConnectionsStay = (events : List Event) (place conn number : ℕ) → place ≤ length events → (is_on conn number (state_at events place) ≡ true) ↔ HasStayed events place conn number

-- ---- chains

-- the chain of this number serves
abbrev pub serves : ℕ → ChainState → Bool
serves number state = list_any (λ (row : Row). row.number == number) state.serving

-- the event at the place is a listener that is accepted, with these chains
pub record AcceptsAt (events : List Event) (place : ℕ) (chains : List Chain) : Type 0 where
  pub tree : Data
  pub at : event_at events place ≡ Some (Update tree)
  pub told : rule_told tree ≡ None
  pub has : chains ≡ chains_in tree

-- the row is one of these
abbrev pub is_row : Row → Row → Bool
is_row one other = (other.number == one.number) && chain_same other.chain one.chain

-- by the event at the place the chain serves under this number, which is new
pub record MadeAt (events : List Event) (place : ℕ) (row : Row) : Type 0 where
  pub chains : List Chain
  pub accepted : AcceptsAt events place chains
  pub new : (state_at events place).made < row.number
  pub serving : list_any (is_row row) (state_at events (suc place)).serving ≡ true

-- a listener that was accepted after the one place and before the other has no chain that equals this one
pub record LacksSince (events : List Event) (start place : ℕ) (chain : Chain) : Type 0 where
  pub at : ℕ
  pub behind : start < at
  pub before : at < place
  pub chains : List Chain
  pub accepted : AcceptsAt events at chains
  pub none : list_any (λ other. chain_same other chain) chains ≡ false

-- a chain that was made drains or is gone exactly where a listener that was accepted since has no chain equal to it
abbrev pub ChainsStay : Type 0
ChainsStay = (events : List Event) (start place : ℕ) (row : Row) → MadeAt events start row → start < place → place ≤ length events
    → (serves row.number (state_at events place) ≡ false) ↔ LacksSince events start place row.chain
