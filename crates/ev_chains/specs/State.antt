-- What is known of a listener's filter chains: those that serve, those that drain, and the open connections.
use Rattle.std.specs.Prelude.{ℕ, ◌+◌, ◌-◌, ◌==◌, Bool, not, List, [], ◌∷◌, ◌++◌, filter, map, Option, Some, None, Result, is_some, unwrap_or}
use Rattle.serde_json.specs.Data.{Data}
use Rattle.ev_tree.specs.Rules.{judged}
use Rattle.std.specs.List.{range_with_len}
use Rattle.ev_model.specs.World.{OpenMember}
use Rattle.ev_model.specs.Publishing.{ascending}
use Rattle.ev_ledger.specs.Members.{count_of}
use Rattle.ev_chains.specs.declared.changes.Changed.{Changed}
use Rattle.ev_chains.specs.declared.rows.Chain.{Chain}
use Rattle.ev_chains.specs.declared.rows.Row.{Row}
use Rattle.ev_chains.specs.Listed.{number_for}
use Rattle.ev_chains.specs.Listeners.{chains_in, rule_told}

-- How many numbers were allocated; the chains that serve, in the order of the last listener;
-- the numbers of those that drain, in the order in which they began to;
-- and the open connections, which are those of worker 0, each on its chain as its listener.
pub record ChainState : Type 0 where
  pub made : ℕ
  pub serving : List Row
  pub draining : List ℕ
  pub opened : List OpenMember

-- at the start nothing is known
abbrev pub opening : ChainState
opening = record { made = 0; serving = []; draining = []; opened = [] }

-- ---- the numbers of a listener's chains

-- a chain that none equals draws a number
abbrev pub made_after : Option ℕ → ℕ → ℕ
made_after None made = made + 1
made_after (Some number) made = made

-- Each chain has the number of the serving chain that equals it, and otherwise the next one.
abbrev pub numbered : ℕ → List Row → List Chain → List Row
numbered made serving [] = []
numbered made serving (chain ∷ chains) =
    record { number = unwrap_or (number_for chain serving) (made + 1); chain = chain }
    ∷ numbered (made_after (number_for chain serving) made) serving chains

-- how many numbers are allocated then
abbrev pub made_by : ℕ → List Row → List Chain → ℕ
made_by made serving [] = made
made_by made serving (chain ∷ chains) = made_by (made_after (number_for chain serving) made) serving chains

-- ---- what stays and what drains

abbrev pub number_of : Row → ℕ
number_of row = row.number

-- one of these rows has an equal chain
abbrev pub has_equal_chain : List Row → Row → Bool
has_equal_chain rows row = is_some (number_for row.chain rows)

-- the numbers of the rows that stay with these
abbrev pub kept_in : List Row → List Row → List ℕ
kept_in next rows = map number_of (filter (has_equal_chain next) rows)

-- and of the others
abbrev pub gone_in : List Row → List Row → List ℕ
gone_in next rows = map number_of (filter (λ row. not (has_equal_chain next row)) rows)

-- what changes where a listener with these chains is accepted
abbrev pub changed_by : List Chain → ChainState → Changed
changed_by chains state =
    let next = numbered state.made state.serving chains in
    record {
      drained = ascending (gone_in next state.serving);
      kept = ascending (kept_in next state.serving);
      made = range_with_len (state.made + 1) (made_by state.made state.serving chains - state.made);
    }

-- the state then
abbrev pub accepted : List Chain → ChainState → ChainState
accepted chains state =
    let next = numbered state.made state.serving chains in
    record state {
      made = made_by state.made state.serving chains;
      serving = next;
      draining = state.draining ++ gone_in next state.serving;
    }

-- what a listener reads as: the rule that is reported, or what changes
abbrev pub listener_reading : Data → ChainState → Result Changed ℕ
listener_reading tree state = judged (rule_told tree) (changed_by (chains_in tree) state)

-- ---- connections

-- a connection is open on the chain of this number
abbrev pub has_open : List OpenMember → ℕ → Bool
has_open opened number = not (count_of number opened == 0)

-- those of these chains without a connection
abbrev pub idle_among : List OpenMember → List ℕ → List ℕ
idle_among opened numbers = filter (λ number. not (has_open opened number)) numbers

-- and those with one
abbrev pub busy_among : List OpenMember → List ℕ → List ℕ
busy_among opened numbers = filter (has_open opened) numbers

-- the chains that drain without a connection
abbrev pub idle_in : ChainState → List ℕ
idle_in state = idle_among state.opened state.draining

-- and those with one
abbrev pub busy_in : ChainState → List ℕ
busy_in state = busy_among state.opened state.draining
