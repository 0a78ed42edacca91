-- Scripts, and what their type keeps.
use Rattle.std.specs.Prelude.{◌≤◌, ◌<◌, List, ℕ, Bool, All, map, length, sum_by}
use Rattle.std.specs.List.Sorted.{IsStrictlyIncreasing}
use Rattle.ev_types.specs.Texts.{IsName}
use Rattle.ev_types.specs.Events.{MayMake}
use Rattle.ev_types.specs.declared.limits.TheConstants.{MAX_WORKERS, LINE_LIMIT, ITEM_LIMIT}
use Rattle.ev_types.specs.declared.events.Line.{Line}
use Rattle.ev_types.specs.declared.events.Profile.{Profile}
use Rattle.ev_types.specs.declared.events.Event.{Event}
use Rattle.ev_types.specs.declared.events.Event.TheVariants.{Connect, Disconnect, Response, Health, FetchTimeout, DrainTimeout, TtlExpired, Publish, Reap, Accept, Close, Settle}

-- a script: its header, its lines and the number of the last one
pub record ScriptParts : Type 0 where
  pub workers : ℕ
  pub auto : Bool
  pub profile : Profile
  pub node : List ℕ
  pub lines : List Line
  pub count : ℕ

-- how many resources an event brings
abbrev pub items_in : Event → ℕ
items_in Connect = 0
items_in Disconnect = 0
items_in (Response response) = length response.items
items_in (Health cluster host healthy) = 0
items_in (FetchTimeout timeout) = 0
items_in (DrainTimeout listener) = 0
items_in (TtlExpired kind name) = 0
items_in Publish = 0
items_in Reap = 0
items_in (Accept ask) = 0
items_in (Close connection) = 0
items_in Settle = 0

-- how many resources the responses of these lines have together
abbrev pub items_of : List Line → ℕ
items_of lines = sum_by (λ (line : Line). items_in line.event) lines

-- what every script keeps
pub record IsScript (script : ScriptParts) : Type 0 where
  pub some_worker : 1 ≤ script.workers
  pub few_workers : script.workers ≤ MAX_WORKERS
  pub named : IsName script.node
  pub counted : 1 ≤ script.count
  pub few_lines : script.count < LINE_LIMIT
  pub rising : IsStrictlyIncreasing (map (λ (line : Line). line.at) script.lines)
  pub numbered : All (λ (line : Line). (2 ≤ line.at) × (line.at ≤ script.count)) script.lines
  pub allowed : All (λ (line : Line). MayMake script.workers line.actor line.event) script.lines
  pub few_items : items_of script.lines < ITEM_LIMIT
