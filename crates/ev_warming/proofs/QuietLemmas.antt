-- Where no row stops being live, the same names are watched.
use Rattle.std.proofs.Common.{◌≡◌, ◌∙◌, ◌++◌, ℕ, Bool, true, false, cond, ◌&&◌, nat_eq, List, [], ◌∷◌, Some, option_map, refl, sym, ap, true≢false}
use Rattle.std.specs.List.{flat_map, IsDistinct, AllByRecursion}
use Rattle.ev_types.specs.Statuses.{is_live, is_active}
use Rattle.ev_types.specs.declared.contents.Kind.{Kind}
use Rattle.ev_types.specs.declared.rows.RowStatus.{RowStatus}
use Rattle.ev_types.specs.declared.rows.RowStatus.TheVariants.{Warming, Active, Draining, Dropped}
use Rattle.ev_types.specs.declared.rows.GenRow.{GenRow}
use Rattle.ev_model.specs.Rows.{with_statuses}
use Rattle.ev_model.specs.Signals.{is_draining}
use Rattle.ev_model.specs.Tidy.{status_by}
use Rattle.ev_model.specs.Watching.{names_awaited, sorted_names}
use Rattle.ev_indexes.specs.Tables.{row_in, numbers_of}
use Rattle.ev_indexes.proofs.TableLemmas.{row_in-with_statuses}
use Rattle.ev_indexes.specs.Due.{is_one_of}
use Rattle.ev_warming.specs.Changes.{began_to_drain}
use Rattle.ev_indexes.specs.Indexes.{status_in}
use Rattle.ev_warming.specs.Promotion.{succeeded_by, rows_promoted}
use Rattle.ev_indexes.specs.Reads.{live_rows, names_needed, names_watched}
use Rattle.ev_indexes.specs.Needs.{needs_of}
use Rattle.ev_indexes.proofs.RowLemmas.{all_then}
use Rattle.ev_indexes.proofs.WhereLemmas.{row_with, own-rows}

pub needs-live : (kind : Kind) (f : GenRow → RowStatus) (rows : List GenRow) → AllByRecursion (λ (r : GenRow). is_live (f r) ≡ is_live r.status) rows → names_needed kind (with_statuses f rows) ≡ names_needed kind rows
needs-live kind f [] all = refl
needs-live kind f (row ∷ rows) all =
    (λ i. flat_map (λ (r : GenRow). names_awaited kind (needs_of r.content)) (cond (all.0 i) (row_with (f row) row ∷ live_rows (with_statuses f rows)) (live_rows (with_statuses f rows))))
    ∙ by (is_live row.status) (needs-live kind f rows all.1)
  where
    by : (b : Bool) → names_needed kind (with_statuses f rows) ≡ names_needed kind rows
        → flat_map (λ (r : GenRow). names_awaited kind (needs_of r.content)) (cond b (row_with (f row) row ∷ live_rows (with_statuses f rows)) (live_rows (with_statuses f rows)))
        ≡ flat_map (λ (r : GenRow). names_awaited kind (needs_of r.content)) (cond b (row ∷ live_rows rows) (live_rows rows))
    by true h = ap (λ (names : List (List ℕ)). names_awaited kind (needs_of row.content) ++ names) h
    by false h = h

-- a promotion by which none begins to drain
module _ (ready : GenRow → Bool) (rows after : List GenRow) (apart : IsDistinct nat_eq (numbers_of rows)) (promoted : after ≡ rows_promoted ready rows)
    (drained : List ℕ) (none : drained ≡ []) (told : (n : ℕ) → is_one_of drained n ≡ began_to_drain n rows after) where
  abbrev after_of : GenRow → RowStatus
  after_of r = status_by (succeeded_by ready rows r) (ready r) r.status

  stays : (status : RowStatus) (succeeded ready : Bool) → (is_active status && is_draining (status_by succeeded ready status)) ≡ false → is_live (status_by succeeded ready status) ≡ is_live status
  stays Warming succeeded true h = refl
  stays Warming succeeded false h = refl
  stays Active true ready h = absurd (true≢false h)
  stays Active false ready h = refl
  stays Draining succeeded ready h = refl
  stays Dropped succeeded ready h = refl

  each : (r : GenRow) → row_in r.number rows ≡ Some r → is_live (after_of r) ≡ is_live r.status
  each r own =
      stays r.status (succeeded_by ready rows r) (ready r)
      (sym ((λ i. is_active (status_in (own i)) && is_draining (status_in ((ap (row_in r.number) promoted ∙ row_in-with_statuses r.number after_of rows ∙ ap (option_map (λ (row : GenRow). record row { status = after_of row })) own) i))))
      ∙ sym (told r.number) ∙ (λ i. is_one_of (none i) r.number))

  pub quiet-names : (kind : Kind) → names_watched kind after ≡ names_watched kind rows
  quiet-names kind =
      ap (names_watched kind) promoted
      ∙ ap sorted_names (needs-live kind after_of rows
      (all_then (λ (r : GenRow). row_in r.number rows ≡ Some r) (λ (r : GenRow). is_live (after_of r) ≡ is_live r.status) rows each (own-rows rows apart)))
