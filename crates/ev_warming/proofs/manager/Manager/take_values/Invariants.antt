use Rattle.std.proofs.Common.{◌≡◌, drop}
use Rattle.ev_model.specs.World.{World}
use Rattle.ev_model.specs.Rows.{add_items}
use Rattle.ev_warming.specs.Managers.{IsKept}
use Rattle.ev_indexes.specs.Worlds.{HasRows}
use Rattle.ev_warming.specs.Arrivals.{AreOnValues}
use Rattle.ev_warming.proofs.manager.Manager.take_values.Given as goal

abbrev pub invariant-loop-place : goal.invariant-loop-place
invariant-loop-place g l = record {
  kept : IsKept l.self;
  table : l.self.state.table ≡ l.initial.self.state.table;
  on_values : AreOnValues l.kind l.initial.self.state.table.rows (drop l.place l.verdicts) (drop l.place l.items);
  stands : (world : World) → HasRows l.initial.self.state world
      → (w : World) × HasRows l.self.state w
      × (add_items l.kind (drop l.place l.verdicts) (drop l.place l.items) w ≡ add_items l.kind l.verdicts l.items world);
}
