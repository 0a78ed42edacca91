use Rattle.std.proofs.Common.{◌≡◌, ◌+◌, ◌≤◌, drop}
use Rattle.ev_model.specs.World.{World}
use Rattle.ev_model.specs.Rows.{add_items}
use Rattle.ev_warming.specs.Arrivals.{AreOnRows}
use Rattle.ev_warming.specs.Changes.{Tells}
use Rattle.ev_warming.specs.Managers.{IsKept}
use Rattle.ev_indexes.specs.Worlds.{HasRows}
use Rattle.ev_warming.proofs.manager.Manager.take_items.Given as goal

abbrev pub invariant-loop-place : goal.invariant-loop-place
invariant-loop-place g l = record {
  kept : IsKept l.self;
  grows : l.initial.self.state.table.made ≤ l.self.state.table.made;
  told : Tells l.initial.self.state.table.rows l.self.state.table.rows l.initial.retired l.retired;
  few : l.self.state.table.made ≤ l.initial.self.state.table.made + l.place;
  on_rows : AreOnRows (drop l.place l.verdicts);
  stands : (world : World) → HasRows l.initial.self.state world
      → (w : World) × HasRows l.self.state w × (add_items l.kind (drop l.place l.verdicts) (drop l.place l.items) w ≡ add_items l.kind l.verdicts l.items world);
}
