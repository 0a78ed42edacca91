-- Of a kind and name at most one generation warms, and at most one serves.
use Rattle.std.specs.Prelude.{ℕ, ◌≤◌, Bool, ◌&&◌, List, length, filter}
use Rattle.ev_types.specs.Statuses.{is_warming, is_active}
use Rattle.ev_types.specs.declared.contents.Kind.{Kind}
use Rattle.ev_types.specs.declared.rows.GenRow.{GenRow}
use Rattle.ev_types.specs.declared.events.Actor.{Actor}
use Rattle.ev_types.specs.declared.events.Event.{Event}
use Rattle.ev_types.specs.declared.events.Entry.{Entry}
use Rattle.ev_types.specs.declared.journals.Format.{Format}
use Rattle.ev_model.specs.World.{World, opening}
use Rattle.ev_model.specs.Rows.{is_row_of}
use Rattle.ev_model.specs.Step.{step}
use Rattle.ev_model.specs.Runs.{world_after}

-- the row is of this kind and name, and warms
abbrev pub warms_as : Kind → List ℕ → GenRow → Bool
warms_as kind name row = is_row_of kind name row && is_warming row.status

-- the row is of this kind and name, and serves
abbrev pub serves_as : Kind → List ℕ → GenRow → Bool
serves_as kind name row = is_row_of kind name row && is_active row.status

-- of each kind and name at most one of these rows warms, and at most one serves
pub record AreSingle (rows : List GenRow) : Type 0 where
  pub one_warms : (kind : Kind) (name : List ℕ) → length (filter (warms_as kind name) rows) ≤ 1
  pub one_serves : (kind : Kind) (name : List ℕ) → length (filter (serves_as kind name) rows) ≤ 1

-- of each kind and name at most one generation warms, and at most one serves
abbrev pub IsSingle : World → Type 0
IsSingle world = AreSingle world.rows

-- it is so at the start, after each event, and after any entries
pub record StaysSingle : Type 0 where
  pub opens : (workers : ℕ) (node : List ℕ) → IsSingle (opening workers node)
  pub steps : (format : Format) (world : World) (actor : Actor) (event : Event)
      → IsSingle world → IsSingle (step format world actor event).0
  pub runs : (format : Format) (workers : ℕ) (node : List ℕ) (entries : List Entry)
      → IsSingle (world_after format (opening workers node) entries)
