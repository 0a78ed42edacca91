-- What calls do to the worlds that a state represents, and what they read of them.
use Rattle.std.specs.Prelude.{◌≡◌, ◌+◌, ℕ, Bool, ◌&&◌, if◌then◌else◌, List, [], ◌∷◌, ◌++◌, map}
use Rattle.std.specs.List.{list_any}
use Rattle.ev_types.specs.Items.{ResponseParts}
use Rattle.ev_types.specs.declared.contents.Content.{Content}
use Rattle.ev_types.specs.Kinds.{kind_same}
use Rattle.ev_types.specs.declared.contents.Kind.{Kind}
use Rattle.ev_types.specs.declared.contents.Kind.TheVariants.{Sds}
use Rattle.ev_types.specs.declared.events.Verdict.{Verdict}
use Rattle.ev_types.specs.declared.hosts.Host.{Host}
use Rattle.ev_types.specs.declared.origins.KeptChain.{KeptChain}
use Rattle.ev_types.specs.declared.rows.Arrival.{Arrival}
use Rattle.ev_types.specs.declared.rows.Arrival.TheVariants.{Absent}
use Rattle.ev_model.specs.World.{World}
use Rattle.ev_model.specs.Rows.{arrived, absent_names, rows_left, rows_replaced, rows_with_new, with_statuses, with_removals, add_items}
use Rattle.ev_model.specs.Signals.{is_meant, rows_meant, rows_ended, with_results}
use Rattle.ev_model.specs.Tidy.{without_unwatched, without_old_results}
use Rattle.ev_indexes.specs.Tables.{without_row}
use Rattle.ev_lookups.specs.Keys.{named}
use Rattle.ev_indexes.specs.declared.state.State.{State}
use Rattle.ev_indexes.specs.Indexes.{depends_on}
use Rattle.ev_indexes.specs.Worlds.{HasRows}
use Rattle.ev_warming.specs.Arrivals.{told_where}
use Rattle.ev_warming.specs.Changes.{is_unlisted, status_left_by}

-- whatever world the first state represents, the second one represents that world changed so
abbrev pub Follows : State → State → (World → World) → Type 0
Follows old new change = (world : World) → HasRows old world → HasRows new (change world)

-- whatever world the state represents, the answer is what is read of it so
abbrev pub AnswersFor : {A : Type 0} → State → A → (World → A) → Type 0
AnswersFor s answer reading = (world : World) → HasRows s world → answer ≡ reading world

-- the world once the removals and the resources of a response are in
abbrev pub with_response : Kind → List Verdict → ResponseParts → World → World
with_response kind verdicts response world = add_items kind verdicts response.items (with_removals kind response world)

-- the world once a response's removed clusters or listeners have come to their end
abbrev pub with_rows_left : Kind → ResponseParts → World → World
with_rows_left kind response world = record world { rows = rows_left kind response world.rows }

-- the same of one removed name
abbrev pub with_name_left : Kind → ResponseParts → List ℕ → World → World
with_name_left kind response name world = record world { rows = with_statuses (status_left_by kind response (name ∷ [])) world.rows }

-- the world once a name of clusters or listeners has come to its end
abbrev pub with_rows_ended : Kind → List ℕ → World → World
with_rows_ended kind name world = record world { rows = rows_ended kind name world.rows }

-- the world with a new generation, which keeps these chains
abbrev pub with_generation : Kind → List ℕ → Content → List KeptChain → World → World
with_generation kind name content kept world =
    record world { rows = rows_with_new kind world.made name content kept world.rows; made = world.made + 1 }

-- the world once the generation that warms under a name is dropped
abbrev pub with_rows_replaced : Kind → List ℕ → World → World
with_rows_replaced kind name world = record world { rows = rows_replaced kind name world.rows }

-- the world without the generation of this number
abbrev pub without_generation : ℕ → World → World
without_generation number world = record world { rows = without_row number world.rows }

-- the world once something was received for a name of a kind, where a live row of the state depends on it
abbrev pub with_told : State → Kind → Arrival → List ℕ → World → World
with_told s kind arrival name world = told_where (list_any (depends_on (named kind name)) s.table.rows) kind arrival name world

-- the world once a removed name is reported as absent, where no resource has it and a live row of the state depends on
-- it
abbrev pub with_name_absent : State → Kind → ResponseParts → List ℕ → World → World
with_name_absent s kind response name world =
    told_where (is_unlisted response name && list_any (depends_on (named kind name)) s.table.rows) kind Absent name world

-- the world once each watched name that a response removes is reported as absent
abbrev pub with_names_absent : Kind → ResponseParts → World → World
with_names_absent kind response world =
    record world { arrivals = world.arrivals ++ map (arrived world.made kind Absent) (absent_names kind response world) }

-- the same, where names are those of anything but secrets: of these nobody hears
abbrev pub with_removals_told : Kind → ResponseParts → World → World
with_removals_told kind response world = if kind_same kind Sds then world else with_names_absent kind response world

-- the world with a health result of a host of a cluster, for the rows that it means something to
abbrev pub with_result : List ℕ → Host → Bool → World → World
with_result name host healthy world = with_results host healthy (rows_meant world.arrivals name host world.rows) world

-- the world once what nobody needs is forgotten
abbrev pub without_unneeded : World → World
without_unneeded world = without_old_results (without_unwatched world)

-- a health result of a host of a cluster means something to a row of the world
abbrev pub means_something : List ℕ → Host → World → Bool
means_something name host world = list_any (is_meant world.arrivals name host) world.rows
