-- Which generations a promotion makes serve: those that are due.
use Rattle.std.proofs.Common.{◌≡◌, ◌∙◌, ℕ, Bool, true, false, not, ◌&&◌, List, Option, None, Some, option_map, refl, sym, ap}
use Rattle.ev_types.specs.Statuses.{is_warming, is_active}
use Rattle.ev_types.specs.declared.rows.RowStatus.{RowStatus}
use Rattle.ev_types.specs.declared.rows.RowStatus.TheVariants.{Warming, Active, Draining, Dropped}
use Rattle.ev_types.specs.declared.rows.GenRow.{GenRow}
use Rattle.ev_model.specs.Tidy.{status_by}
use Rattle.ev_indexes.specs.KeptEndpoints.{ResultsKept}
use Rattle.ev_indexes.specs.Tables.{row_in}
use Rattle.ev_indexes.proofs.TableLemmas.{row_in-with_statuses}
use Rattle.ev_indexes.specs.Watched.{WatchesKept}
use Rattle.ev_indexes.specs.Ready.{is_ready_in, is_due_found, is_due_at}
use Rattle.ev_indexes.specs.Indexes.{status_in}
use Rattle.ev_warming.specs.Promotion.{succeeded_by, rows_promoted}
use Rattle.ev_warming.specs.Changes.{began_to_serve}
use Rattle.ev_warming.proofs.DrainLemmas.{status-promoted}

module _ (ready : GenRow → Bool) (rows : List GenRow) (n : ℕ) where
  -- a row that isn't there isn't there after
  none-began : row_in n rows ≡ None → began_to_serve n rows (rows_promoted ready rows) ≡ false
  none-began at =
      let f = λ (r : GenRow). status_by (succeeded_by ready rows r) (ready r) r.status in
      (λ i. not (is_active (status_in (at i))) && is_active (status_in ((row_in-with_statuses n f rows ∙ ap (option_map (λ (r : GenRow). record r { status = f r })) at) i)))

  -- one that warms and is ready serves after
  some-began : (row : GenRow) → row_in n rows ≡ Some row → began_to_serve n rows (rows_promoted ready rows) ≡ (is_warming row.status && ready row)
  some-began row at =
      (λ i. not (is_active (status_in (at i))) && is_active (status-promoted ready rows n row at i))
      ∙ by row.status (succeeded_by ready rows row) (ready row)
    where
      by : (status : RowStatus) (succeeded can : Bool) → (not (is_active status) && is_active (status_by succeeded can status)) ≡ (is_warming status && can)
      by Warming succeeded true = refl
      by Warming succeeded false = refl
      by Active succeeded can = refl
      by Draining succeeded can = refl
      by Dropped succeeded can = refl

pub due-began : (watches : WatchesKept) (results : ResultsKept) (rows after : List GenRow) → after ≡ rows_promoted (is_ready_in watches results) rows → (n : ℕ)
    → is_due_at watches results n rows ≡ began_to_serve n rows after
due-began watches results rows after are n = by (row_in n rows) refl ∙ (λ i. began_to_serve n rows (sym are i))
  where
    by : (o : Option GenRow) → row_in n rows ≡ o → is_due_at watches results n rows ≡ began_to_serve n rows (rows_promoted (is_ready_in watches results) rows)
    by None at = ap (is_due_found watches results) at ∙ sym (none-began (is_ready_in watches results) rows n at)
    by (Some row) at = ap (is_due_found watches results) at ∙ sym (some-began (is_ready_in watches results) rows n row at)
