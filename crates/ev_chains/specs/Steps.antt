-- What each event does to a listener's filter chains, and how it is answered. Source:
-- Envoy's listener manager, which updates filter chains in place: chains that are equal stay, the others drain.
use Rattle.std.specs.Prelude.{ℕ, Bool, if◌then◌else◌, List, [], ◌∷◌, Option, Some, None}
use Rattle.serde_json.specs.Data.{Data}
use Rattle.ev_model.specs.Publishing.{ascending}
use Rattle.ev_model.specs.Connections.{is_open, closed}
use Rattle.ev_ledger.specs.Members.{member_on, with_member}
use Rattle.ev_chains.specs.Closing.{closed_by, left_open, on_chain}
use Rattle.ev_chains.specs.declared.changes.Changed.{Changed}
use Rattle.ev_chains.specs.declared.chains.ChainAnswer.{ChainAnswer}
use Rattle.ev_chains.specs.declared.chains.ChainAnswer.TheVariants.{InUse, NoChain, Chain}
use Rattle.ev_chains.specs.Rows.{chosen}
use Rattle.ev_chains.specs.Listed.{number_in}
use Rattle.ev_chains.specs.Listeners.{chains_in, rule_told}
use Rattle.ev_chains.specs.State.{ChainState, changed_by, accepted, idle_in, busy_in}

-- what happens: the listener comes in a version, which is its message's tree;
-- a connection comes, by its number, its port and the server that it names; a connection closes;
-- the drain timeout comes; chains that nothing holds go
pub data Event : Type 0 where
  Update : Data → Event
  Accept : ℕ → ℕ → List ℕ → Event
  Close : ℕ → Event
  DrainTimeout : Event
  Reap : Event

-- how an event is answered
pub data EventAnswer : Type 0 where
  Refused : ℕ → EventAnswer
  Updated : Changed → EventAnswer
  Accepted : ChainAnswer → EventAnswer
  Closed : Bool → EventAnswer
  Drained : List ℕ → EventAnswer
  Reaped : List ℕ → EventAnswer

-- ---- a listener

-- it is refused by the rule that is reported, and otherwise its chains change what serves
abbrev pub listener_by : Option ℕ → Data → ChainState → ChainState × EventAnswer
listener_by (Some rule) tree state = (state, Refused rule)
listener_by None tree state = (accepted (chains_in tree) state, Updated (changed_by (chains_in tree) state))

-- ---- connections

-- the chain that takes a connection, by its number
abbrev pub accept_by : Option ℕ → ℕ → ChainState → ChainState × ChainAnswer
accept_by None conn state = (state, NoChain)
accept_by (Some number) conn state = (record state { opened = with_member (member_on 0 conn (on_chain number)) state.opened }, Chain number)

-- a connection of a number that is open is not accepted
abbrev pub accept : ℕ → List ℕ → ℕ → ChainState → ChainState × ChainAnswer
accept conn server port state =
    if is_open state.opened 0 conn then (state, InUse)
    else accept_by (number_in (chosen server port state.serving)) conn state

abbrev pub close : ℕ → ChainState → ChainState
close conn state = record state { opened = (closed conn 0 state.opened).opened }

-- the drain timeout closes the connections on chains that drain
abbrev pub drain : ChainState → ChainState
drain state = record state { opened = left_open state.draining 0 state.opened }

abbrev pub drained_by : ChainState → List ℕ
drained_by state = closed_by state.draining 0 state.opened

-- chains go that drain without a connection
abbrev pub reap : ChainState → ChainState
reap state = record state { draining = busy_in state }

abbrev pub reaped_by : ChainState → List ℕ
reaped_by state = ascending (idle_in state)

-- ---- any event

abbrev pub with_answer : ChainState × ChainAnswer → ChainState × EventAnswer
with_answer made = (made.0, Accepted made.1)

abbrev pub chain_step : ChainState → Event → ChainState × EventAnswer
chain_step state (Update tree) = listener_by (rule_told tree) tree state
chain_step state (Accept conn port server) = with_answer (accept conn server port state)
chain_step state (Close conn) = (close conn state, Closed (is_open state.opened 0 conn))
chain_step state DrainTimeout = (drain state, Drained (drained_by state))
chain_step state Reap = (reap state, Reaped (reaped_by state))

-- ---- many events

-- the state after events, one after another
abbrev pub state_after : ChainState → List Event → ChainState
state_after state [] = state
state_after state (event ∷ events) = state_after (chain_step state event).0 events

-- their answers
abbrev pub answers_of : ChainState → List Event → List EventAnswer
answers_of state [] = []
answers_of state (event ∷ events) = (chain_step state event).1 ∷ answers_of (chain_step state event).0 events
