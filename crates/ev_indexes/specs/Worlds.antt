-- Which worlds a state represents: it has what the world has of generations,
-- of what was received for names, and of results.
use Rattle.std.specs.Prelude.{◌≡◌, ◌<◌, ℕ, false, IsSome, is_some, unwrap_or}
use Rattle.std.specs.List.{AllByRecursion}
use Rattle.ev_types.specs.Items.{content_kind}
use Rattle.ev_types.specs.Texts.{IsName}
use Rattle.ev_types.specs.declared.hosts.Host.{Host}
use Rattle.ev_types.specs.declared.rows.GenRow.{GenRow}
use Rattle.ev_model.specs.World.{World}
use Rattle.ev_model.specs.Warming.{value_by, last_told, last_timed, has_result, is_healthy}
use Rattle.ev_indexes.specs.KeptEndpoints.{result_in}
use Rattle.ev_indexes.specs.Tables.{IsTable, row_in}
use Rattle.ev_lookups.specs.declared.kind_keys.Key.{Key}
use Rattle.ev_indexes.specs.declared.state.State.{State}
use Rattle.ev_indexes.specs.Watched.{watch_in}

-- what the world of every run keeps: no two rows have one number,
-- a row's content is of its kind and its name has 1 to 512 bytes,
-- and numbers that weren't allocated have no row and no result
pub record IsSound (world : World) : Type 0 where
  pub table : IsTable (record { rows = world.rows; made = world.made })
  pub typed : AllByRecursion (λ (row : GenRow). content_kind row.content ≡ row.kind) world.rows
  pub named : AllByRecursion (λ (row : GenRow). IsName row.name) world.rows
  pub heard : (number : ℕ) (host : Host) → world.made < number → has_result world.results number host ≡ false

-- the state has what the world has: the rows, how many numbers were allocated for them,
-- what was received for each name of a kind, and the results of each row
pub record HasRows (s : State) (world : World) : Type 0 where
  pub sound : IsSound world
  pub rows : s.table.rows ≡ world.rows
  pub made : s.table.made ≡ world.made
  pub told : (key : Key) → (watch_in s.watches key).told ≡ last_told world.arrivals key.kind key.name
  pub timed : (key : Key) → (watch_in s.watches key).timed ≡ last_timed world.arrivals key.kind key.name
  pub value : (key : Key) → (watch_in s.watches key).value ≡ value_by world.arrivals key.kind key.name
  pub resulted : (number : ℕ) (host : Host) → IsSome (row_in number s.table.rows) → is_some (result_in s.results number host) ≡ has_result world.results number host
  pub healthy : (number : ℕ) (host : Host) → IsSome (row_in number s.table.rows) → unwrap_or (result_in s.results number host) false ≡ is_healthy world.results number host

-- it is so in every world that the state represents
abbrev pub InWorlds : State → (World → Type 0) → Type 0
InWorlds s Said = (world : World) → HasRows s world → Said world
