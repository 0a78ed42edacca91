use Rattle.std.proofs.Common.{◌<◌, length, arith}
use Rattle.ev_run.specs.Playing.{IsNewPass, IsReady, IsTask}
use Rattle.ev_run.proofs.PlaceLemmas.{AreLeaving, leaves, room_kept}
use Rattle.ev_run.proofs.players.players_of.Goals as goal

pub passes-preserved : goal.passes-preserved
passes-preserved g c =
    let counted = c.passes.passes.ok.0 in
    let some : 0 < length c.passes.passes.items = omega arith in
    let now : AreLeaving (length c.args.passes.items) c.push_reserved.new.self.items c.remove-task.new.self.items c.remove-pass.new.self.items
    (λ i p. IsReady g.J.Journaled.shows c.args.script.now c.args.gate.now i p.task p.pass) (IsTask c.args.script.now)
    (IsNewPass g.J.Journaled.shows c.args.script.now c.args.gate.now) =
    leaves (length c.args.passes.items) c.passes.players.items c.push_reserved.new.self.items c.passes.tasks.items c.remove-task.new.self.items
    c.passes.passes.items c.remove-pass.new.self.items
    (λ i p. IsReady g.J.Journaled.shows c.args.script.now c.args.gate.now i p.task p.pass) (IsTask c.args.script.now)
    (IsNewPass g.J.Journaled.shows c.args.script.now c.args.gate.now)
    _ c.remove-task.result c.remove-pass.result c.passes.invariant.leaving some c.remove-task.ensures.value c.remove-task.ensures.by_index.2
    c.remove-pass.ensures.value c.remove-pass.ensures.by_index.2 c.push_reserved.ensures.items (λ task pass. (c.requires.gate, task, pass)) in
    record {
      leaving = now;
      room =
          room_kept (length c.passes.players.items) (length c.passes.passes.items) (length c.push_reserved.new.self.items) (length c.remove-pass.new.self.items)
          (length c.args.passes.items) _ _ c.passes.invariant.leaving.count now.count c.passes.invariant.room c.push_reserved.ensures.capacity;
    }
