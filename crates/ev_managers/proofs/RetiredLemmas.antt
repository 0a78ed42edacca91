-- Which generations retired, and which changed.
use Rattle.std.proofs.Common.{◌≡◌, ◌∙◌, ℕ, Bool, true, false, not, ◌&&◌, ◌||◌, nat_eq, List, [], ◌++◌, Option, None, Some, option_map, option_to_list, refl, sym, ap}
use Rattle.std.proofs.Math.Bool.{or_assoc}
use Rattle.std.proofs.lemmas.List.Folds.{list_any-append}
use Rattle.ev_types.specs.declared.contents.Kind.{Kind}
use Rattle.ev_types.specs.Statuses.{is_live, is_active}
use Rattle.ev_types.specs.declared.rows.RowStatus.{RowStatus}
use Rattle.ev_types.specs.declared.rows.RowStatus.TheVariants.{Warming, Active, Draining, Dropped}
use Rattle.ev_types.specs.declared.rows.GenRow.{GenRow}
use Rattle.ev_model.specs.Rows.{with_statuses}
use Rattle.ev_model.specs.Signals.{is_draining, rows_ended}
use Rattle.ev_model.specs.Tidy.{status_by}
use Rattle.ev_indexes.specs.Tables.{row_in}
use Rattle.ev_indexes.proofs.TableLemmas.{row_in-with_statuses}
use Rattle.ev_lookups.specs.Keys.{named}
use Rattle.ev_indexes.specs.declared.state.State.{State}
use Rattle.ev_indexes.specs.Due.{is_one_of}
use Rattle.ev_indexes.specs.Indexes.{IsIndexed, numbers_where, serves, status_in, warms}
use Rattle.ev_warming.specs.Changes.{is_over, has_retired, began_to_serve, began_to_drain}
use Rattle.ev_warming.proofs.RetiredLemmas.{tells-ended}
use Rattle.ev_managers.specs.declared.managers.Managers.{Managers}
use Rattle.ev_managers.specs.Managers.{HaveSameRows}
use Rattle.ev_managers.specs.Moved.{AreRetired, Grows, is_moved}

-- where the rows are the same, none retired
pub none-retired : (before after : List GenRow) → after ≡ before → (number : ℕ) → false ≡ has_retired number before after
none-retired before after same number = by (is_over (row_in number before)) ∙ (λ i. is_over (row_in number (sym same i)) && not (is_over (row_in number before)))
  where
    by : (b : Bool) → false ≡ (b && not b)
    by true = refl
    by false = refl

-- where each generation stays as it is
pub none-are : (before after : Managers) → HaveSameRows before after → AreRetired [] before after
none-are before after same n = none-retired before.core.state.table.rows after.core.state.table.rows same n

-- those that were live under a name that has come to its end
pub ended-are : (s : State) (kind : Kind) (name numbers : List ℕ) (warming active : Option ℕ) (after : List GenRow) → IsIndexed s
    → option_to_list warming ≡ numbers_where (warms (named kind name)) s.table.rows → option_to_list active ≡ numbers_where (serves (named kind name)) s.table.rows
    → after ≡ rows_ended kind name s.table.rows → numbers ≡ option_to_list warming ++ option_to_list active
    → (number : ℕ) → is_one_of numbers number ≡ has_retired number s.table.rows after
ended-are s kind name numbers warming active after x w a ended are number =
    ap (λ ns. is_one_of ns number) are
    ∙ (tells-ended kind name s.table.rows x.table.apart warming active after [] w a ended).told number

-- numbers with more of them
pub put-are : (before after : List GenRow) (numbers put drained : List ℕ) → put ≡ numbers ++ drained
    → ((number : ℕ) → is_one_of drained number ≡ began_to_drain number before after) → Grows numbers put (λ number. began_to_drain number before after)
put-are before after numbers put drained are told number =
    ap (λ ns. is_one_of ns number) are ∙ list_any-append (nat_eq number) numbers drained ∙ (λ i. is_one_of numbers number || told number i)

-- numbers with those that came to serve and those that began to drain
pub put-moved : (before after : List GenRow) (numbers put served drained : List ℕ) → put ≡ (numbers ++ served) ++ drained
    → ((number : ℕ) → is_one_of served number ≡ began_to_serve number before after)
    → ((number : ℕ) → is_one_of drained number ≡ began_to_drain number before after)
    → Grows numbers put (λ number. is_moved number before after)
put-moved before after numbers put served drained are serve drain number =
    ap (λ ns. is_one_of ns number) are
    ∙ list_any-append (nat_eq number) (numbers ++ served) drained
    ∙ (λ i. list_any-append (nat_eq number) numbers served i || drain number i)
    ∙ (λ i. (is_one_of numbers number || serve number i) || began_to_drain number before after)
    ∙ or_assoc (is_one_of numbers number) (began_to_serve number before after) (began_to_drain number before after)

drained_by : (succeeded ready : Bool) (status : RowStatus)
    → (is_active status && is_draining (status_by succeeded ready status)) ≡ (not (is_live (status_by succeeded ready status)) && not (not (is_live status)))
drained_by succeeded true Warming = refl
drained_by succeeded false Warming = refl
drained_by true ready Active = refl
drained_by false ready Active = refl
drained_by succeeded ready Draining = refl
drained_by succeeded ready Dropped = refl

-- what retires in a promotion is what began to drain
pub drained-retired : (number : ℕ) (succeeded ready : GenRow → Bool) (before after : List GenRow)
    → after ≡ with_statuses (λ (row : GenRow). status_by (succeeded row) (ready row) row.status) before
    → began_to_drain number before after ≡ has_retired number before after
drained-retired number succeeded ready before after is =
    (λ i. is_active (status_in (row_in number before)) && is_draining (status_in (here i)))
    ∙ by (row_in number before)
    ∙ sym (λ i. is_over (here i) && not (is_over (row_in number before)))
  where
    new : GenRow → GenRow
    new row = record row { status = status_by (succeeded row) (ready row) row.status }

    here : row_in number after ≡ option_map (λ (row : GenRow). record row { status = status_by (succeeded row) (ready row) row.status }) (row_in number before)
    here = ap (row_in number) is ∙ row_in-with_statuses number (λ (row : GenRow). status_by (succeeded row) (ready row) row.status) before

    by : (o : Option GenRow)
        → (is_active (status_in o) && is_draining (status_in (option_map (λ (row : GenRow). record row { status = status_by (succeeded row) (ready row) row.status }) o)))
        ≡ (is_over (option_map (λ (row : GenRow). record row { status = status_by (succeeded row) (ready row) row.status }) o) && not (is_over o))
    by None = refl
    by (Some row) = drained_by (succeeded row) (ready row) row.status
