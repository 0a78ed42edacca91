use Rattle.std.proofs.Common.{List, drop}
use Rattle.ev_model.specs.Operations.{Operation}
use Rattle.ev_operations.specs.Dues.{AreDue}
use Rattle.ev_operations.proofs.CourseLemmas.{IsPassed}
use Rattle.ev_operations.proofs.course.Course.find.Given as goal

abbrev pub invariant-loop-place : goal.invariant-loop-place
invariant-loop-place l =
    (os : List Operation) → AreDue l.script l.row.actor (drop l.self.place l.self.dues) os → IsPassed l.script l.row l.self os l.place
