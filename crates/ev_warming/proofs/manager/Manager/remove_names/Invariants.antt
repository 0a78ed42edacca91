use Rattle.std.proofs.Common.{◌≡◌, take}
use Rattle.ev_model.specs.World.{World}
use Rattle.ev_model.specs.Rows.{with_statuses}
use Rattle.ev_warming.specs.Changes.{status_left_by, Tells}
use Rattle.ev_warming.specs.Managers.{IsKept}
use Rattle.ev_indexes.specs.Worlds.{HasRows}
use Rattle.ev_warming.proofs.manager.Manager.remove_names.Given as goal

abbrev pub invariant-loop-name : goal.invariant-loop-name
invariant-loop-name g l = record {
  kept : IsKept l.self;
  made : l.self.state.table.made ≡ l.initial.self.state.table.made;
  told : Tells l.initial.self.state.table.rows l.self.state.table.rows l.initial.retired l.retired;
  stands : (world : World) → HasRows l.initial.self.state world
      → HasRows l.self.state (record world { rows = with_statuses (status_left_by l.kind l.mentions (take l.name-index l.name-items)) world.rows });
}
