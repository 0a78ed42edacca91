use Rattle.std.proofs.Common.{◌≡◌, drop}
use Rattle.ev_model.specs.Conditions.{has_part, in_case}
use Rattle.ev_routes.proofs.texts_in_case.has_part_in_case.Given as goal

abbrev pub invariant-loop-place : goal.invariant-loop-place
invariant-loop-place l =
    has_part (drop l.place (in_case l.ignore l.text)) (in_case l.ignore l.part) ≡ has_part (in_case l.ignore l.text) (in_case l.ignore l.part)
