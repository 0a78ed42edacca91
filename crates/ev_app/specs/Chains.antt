-- The text that answers lines of filter chains, and what holds of them.
use Rattle.std.specs.Prelude.{◌≡◌, ◌≤◌, ◌<◌, ◌↔◌, ℕ, true, false, List, length, Some}
use Rattle.ev_chains.specs.declared.rows.Row.{Row}
use Rattle.ev_chains.specs.Steps.{Event}
use Rattle.ev_chain_lines.specs.Lines.{events_of}
use Rattle.ev_chain_lines.specs.Texts.{chains_text}
use Rattle.ev_chains.specs.Laws.{HasStayed, LacksSince, MadeAt, is_on, serves, state_at}

-- after each of the events a connection is open on a chain exactly where the chain took it
-- and nothing has closed it since
abbrev pub KeepConnections : List Event → Type 0
KeepConnections events =
    (place conn number : ℕ) → place ≤ length events → (is_on conn number (state_at events place) ≡ true) ↔ HasStayed events place conn number

-- after each of the events a chain that was made drains or is gone exactly where a listener
-- that was accepted since lacks it
abbrev pub KeepChains : List Event → Type 0
KeepChains events =
    (start place : ℕ) (row : Row) → MadeAt events start row → start < place → place ≤ length events
    → (serves row.number (state_at events place) ≡ false) ↔ LacksSince events start place row.chain

-- the bytes' lines are events, and the text answers them; connections and chains stay as these say
pub record IsChained (bytes text : List ℕ) : Type 0 where
  pub events : List Event
  pub reads : events_of bytes ≡ Some events
  pub answers : text ≡ chains_text events
  pub connections : KeepConnections events
  pub chains : KeepChains events
