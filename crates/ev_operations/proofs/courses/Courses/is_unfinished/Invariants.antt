use Rattle.std.proofs.Common.{◌≡◌, ◌<◌, ℕ, false, drop, Some, slice_get}
use Rattle.std.specs.List.{list_any}
use Rattle.ev_operations.specs.Courses.{is_left}
use Rattle.ev_operations.specs.declared.course.Course.{Course}
use Rattle.ev_operations.proofs.courses.Courses.is_unfinished.Given as goal

abbrev pub invariant-loop-course : goal.invariant-loop-course
invariant-loop-course l =
    (seat : ℕ) → seat < l.course-index → (course : Course) → slice_get l.course-items seat ≡ Some course
    → list_any (is_left l.script course.rests) (drop course.place course.dues) ≡ false
