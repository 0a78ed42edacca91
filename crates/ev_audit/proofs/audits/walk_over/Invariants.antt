use Rattle.std.proofs.Common.{◌≡◌, ◌≤◌, length}
use Rattle.ev_audit.specs.Audits.{IsBefore, world_before}
use Rattle.ev_audit.proofs.audits.walk_over.Given as goal

abbrev pub ghost-pass : goal.ghost-pass
ghost-pass a = world_before a.self.now.courses.format a.script.now a.rows.now a.place

abbrev pub invariant-loop-place : goal.invariant-loop-place
invariant-loop-place l = record { before : IsBefore l.script l.rows l.place l.walk; format : l.walk.courses.format ≡ l.fn.walk.courses.format; within : l.place ≤ length l.rows }
