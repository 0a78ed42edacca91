-- Events by their places.
use Rattle.std.proofs.Common.{◌≡◌, ℕ, suc, zero, ◌<◌, List, [], ◌∷◌, length, take, Some, refl, ap, arith}
use Rattle.ev_chains.specs.State.{ChainState, opening}
use Rattle.ev_chains.specs.Steps.{Event, chain_step, state_after}
use Rattle.ev_chains.specs.Laws.{event_at, state_at}

-- an event is there below the length
pub record IsThere (events : List Event) (k : ℕ) : Type 0 where
  pub event : Event
  pub at : event_at events k ≡ Some event

pub there : (events : List Event) (k : ℕ) → k < length events → IsThere events k
there [] k lt = absurd (omega arith)
there (event ∷ events) zero lt = record { event = event; at = refl }
there (event ∷ events) (suc k) lt = let t = there events k (omega arith) in record { event = t.event; at = t.at }

-- the state after an event
behind : (state : ChainState) (events : List Event) (k : ℕ) (event : Event) → event_at events k ≡ Some event
    → state_after state (take (suc k) events) ≡ (chain_step (state_after state (take k events)) event).0
behind state [] k event at = absurd (cc at)
behind state (e ∷ events) zero event at = let same : e ≡ event = cc in ap (λ x. (chain_step state x).0) same
behind state (e ∷ events) (suc k) event at = behind (chain_step state e).0 events k event at

pub state_next : (events : List Event) (k : ℕ) (event : Event) → event_at events k ≡ Some event → state_at events (suc k) ≡ (chain_step (state_at events k) event).0
state_next events k event at = behind opening events k event at
