use Rattle.std.proofs.Common.{◌≡◌, map, take}
use Rattle.ev_indexes.specs.KeptEndpoints.{is_eligible}
use Rattle.ev_indexes.proofs.endpoints.Endpoints.marks_of.Given as goal

abbrev pub invariant-loop-row : goal.invariant-loop-row
invariant-loop-row l = l.marks ≡ map (is_eligible l.self l.number l.checked) (take l.row-index l.rows)
