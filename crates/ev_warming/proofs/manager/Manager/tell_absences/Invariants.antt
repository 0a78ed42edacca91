use Rattle.std.proofs.Common.{◌≡◌, take}
use Rattle.ev_model.specs.World.{World}
use Rattle.ev_warming.specs.Managers.{IsKept}
use Rattle.ev_indexes.specs.Worlds.{HasRows}
use Rattle.ev_warming.proofs.AbsenceLemmas.{with_absent}
use Rattle.ev_warming.proofs.manager.Manager.tell_absences.Given as goal

abbrev pub invariant-loop-name : goal.invariant-loop-name
invariant-loop-name g l = record {
  kept : IsKept l.self;
  table : l.self.state.table ≡ l.initial.self.state.table;
  items : l.name-items ≡ l.mentions.removed;
  stands : (world : World) → HasRows l.initial.self.state world
      → HasRows l.self.state (with_absent l.mentions l.kind world (take l.name-index l.mentions.removed));
}
