use Rattle.std.proofs.Common.{◌≡◌, drop}
use Rattle.std.specs.List.{list_any}
use Rattle.ev_operations.specs.Courses.{is_left}
use Rattle.ev_operations.proofs.course.Course.is_unfinished.Given as goal

abbrev pub invariant-loop-place : goal.invariant-loop-place
invariant-loop-place l =
    list_any (is_left l.script l.self.rests) (drop l.self.place l.self.dues) ≡ list_any (is_left l.script l.self.rests) (drop l.place l.self.dues)
