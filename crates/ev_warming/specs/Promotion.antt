-- Promotion, where readiness is a test of rows: the machine's promotion, which takes what came and the results for that
-- test.
use Rattle.std.specs.Prelude.{Bool, ◌&&◌, if◌then◌else◌, List}
use Rattle.std.specs.List.{list_any}
use Rattle.ev_types.specs.Statuses.{is_warming}
use Rattle.ev_types.specs.declared.rows.RowStatus.{RowStatus}
use Rattle.ev_types.specs.declared.rows.RowStatus.TheVariants.{Draining}
use Rattle.ev_types.specs.declared.rows.GenRow.{GenRow}
use Rattle.ev_model.specs.Rows.{is_row_of, with_statuses}
use Rattle.ev_model.specs.Tidy.{status_by}
use Rattle.ev_lookups.specs.declared.kind_keys.Key.{Key}
use Rattle.ev_indexes.specs.Indexes.{serves}

-- of these rows one of the same kind and name warms and is ready
abbrev pub succeeded_by : (GenRow → Bool) → List GenRow → GenRow → Bool
succeeded_by ready rows row = list_any (λ (other : GenRow). is_row_of row.kind row.name other && (is_warming other.status && ready other)) rows

-- these rows once all that warm and are ready serve
abbrev pub rows_promoted : (GenRow → Bool) → List GenRow → List GenRow
rows_promoted ready rows = with_statuses (λ (row : GenRow). status_by (succeeded_by ready rows row) (ready row) row.status) rows

-- the status of a row once the one that serves this name drains
abbrev pub status_drained : Key → GenRow → RowStatus
status_drained key row = if serves key row then Draining else row.status
