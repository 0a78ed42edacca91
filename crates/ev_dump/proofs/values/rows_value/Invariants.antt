use Rattle.std.proofs.Common.{◌≡◌, map, take}
use Rattle.serde_json.specs.View.{view}
use Rattle.ev_dump.specs.Texts.{of_kind, row_tree}
use Rattle.ev_dump.proofs.values.rows_value.Given as goal

abbrev pub invariant-loop-row : goal.invariant-loop-row
invariant-loop-row l = map view l.values.items ≡ map row_tree (of_kind l.kind (take l.row-index l.rows))
