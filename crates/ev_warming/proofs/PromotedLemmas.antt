-- What represents a world represents the promoted world once it has promoted.
use Rattle.std.proofs.Common.{◌≡◌, ◌∙◌, ℕ, false, ◌&&◌, List, Option, None, Some, IsSome, is_some, option_map, unwrap_or, refl, sym, ap, subst}
use Rattle.std.specs.List.{list_any, AllByRecursion}
use Rattle.ev_types.specs.Statuses.{is_warming}
use Rattle.ev_types.specs.declared.rows.RowStatus.{RowStatus}
use Rattle.ev_types.specs.declared.rows.GenRow.{GenRow}
use Rattle.ev_model.specs.World.{World}
use Rattle.ev_model.specs.Warming.{is_ready_by}
use Rattle.ev_model.specs.Rows.{is_row_of, with_statuses}
use Rattle.ev_model.specs.Tidy.{is_due, has_successor, status_by, promoted_status, promoted_rows, promoted}
use Rattle.ev_indexes.specs.KeptEndpoints.{result_in}
use Rattle.ev_indexes.specs.Tables.{row_in}
use Rattle.ev_indexes.proofs.TableLemmas.{row_in-with_statuses}
use Rattle.ev_indexes.specs.declared.state.State.{State}
use Rattle.ev_indexes.specs.Ready.{is_ready_in}
use Rattle.ev_indexes.specs.Indexes.{IsIndexed, SameMarks}
use Rattle.ev_warming.specs.Promotion.{succeeded_by, rows_promoted}
use Rattle.ev_indexes.specs.Worlds.{HasRows}
use Rattle.ev_indexes.proofs.WhereLemmas.{own-rows}
use Rattle.ev_indexes.proofs.SoundLemmas.{sound-with_statuses}
use Rattle.ev_indexes.proofs.RowLemmas.{any_agrees, all_then, statuses_agree}
use Rattle.ev_indexes.proofs.WorldLemmas.{ready_too}

module _ (s : State) (world : World) (stands : HasRows s world) (x : IsIndexed s) where
  ready_all : AllByRecursion (λ (r : GenRow). is_ready_in s.watches s.results r ≡ is_ready_by world.arrivals world.results r) s.table.rows
  ready_all =
      all_then (λ (r : GenRow). row_in r.number s.table.rows ≡ Some r) (λ (r : GenRow). is_ready_in s.watches s.results r ≡ is_ready_by world.arrivals world.results r)
      s.table.rows (λ r own. ready_too s world stands r (subst IsSome (sym own) refl)) (own-rows s.table.rows x.table.apart)

  successor : (row : GenRow) → succeeded_by (is_ready_in s.watches s.results) s.table.rows row ≡ has_successor world.arrivals world.results world.rows row
  successor row =
      any_agrees (λ (o : GenRow). is_row_of row.kind row.name o && (is_warming o.status && is_ready_in s.watches s.results o)) (λ (o : GenRow). is_row_of row.kind row.name o && is_due world.arrivals world.results o) s.table.rows
      (all_then (λ (o : GenRow). is_ready_in s.watches s.results o ≡ is_ready_by world.arrivals world.results o)
      (λ (o : GenRow). (is_row_of row.kind row.name o && (is_warming o.status && is_ready_in s.watches s.results o)) ≡ (is_row_of row.kind row.name o && is_due world.arrivals world.results o))
      s.table.rows (λ o e. λ i. is_row_of row.kind row.name o && (is_warming o.status && e i)) ready_all)
      ∙ ap (list_any (λ (o : GenRow). is_row_of row.kind row.name o && is_due world.arrivals world.results o)) stands.rows

  pub promoted_too : rows_promoted (is_ready_in s.watches s.results) s.table.rows ≡ promoted_rows world.arrivals world.results world.rows
  promoted_too =
      statuses_agree (λ (r : GenRow). status_by (succeeded_by (is_ready_in s.watches s.results) s.table.rows r) (is_ready_in s.watches s.results r) r.status) (promoted_status world.arrivals world.results world.rows) s.table.rows
      (all_then (λ (r : GenRow). is_ready_in s.watches s.results r ≡ is_ready_by world.arrivals world.results r)
      (λ (r : GenRow). status_by (succeeded_by (is_ready_in s.watches s.results) s.table.rows r) (is_ready_in s.watches s.results r) r.status ≡ promoted_status world.arrivals world.results world.rows r)
      s.table.rows (λ r e. λ i. status_by (successor r i) (e i) r.status) ready_all)
      ∙ ap (with_statuses (promoted_status world.arrivals world.results world.rows)) stands.rows

-- rows with other statuses are found as before
pub there_before : (number : ℕ) (f : GenRow → RowStatus) (rows : List GenRow) → IsSome (row_in number (with_statuses f rows)) → IsSome (row_in number rows)
there_before number f rows there = by (row_in number rows) (subst IsSome (row_in-with_statuses number f rows) there)
  where
    by : (o : Option GenRow) → IsSome (option_map (λ (row : GenRow). record row { status = f row }) o) → IsSome o
    by None h = h
    by (Some row) h = refl

-- what represents a world represents the promoted world once it has promoted
pub promoted-stands : (s t : State) (world : World) → IsIndexed s → HasRows s world → t.table.made ≡ s.table.made → t.results ≡ s.results → SameMarks s.watches t.watches
    → t.table.rows ≡ rows_promoted (is_ready_in s.watches s.results) s.table.rows → HasRows t (promoted world)
promoted-stands s t world x stands made results marks rows =
    let f = λ (r : GenRow). status_by (succeeded_by (is_ready_in s.watches s.results) s.table.rows r) (is_ready_in s.watches s.results r) r.status in
    record {
      sound = sound-with_statuses world (promoted_status world.arrivals world.results world.rows) stands.sound;
      rows = rows ∙ promoted_too s world stands x;
      made = made ∙ stands.made;
      told = λ q. (marks q).0 ∙ stands.told q;
      timed = λ q. (marks q).1 ∙ stands.timed q;
      value = λ q. (marks q).2 ∙ stands.value q;
      resulted = λ n h there. (λ i. is_some (result_in (results i) n h)) ∙ stands.resulted n h (there_before n f s.table.rows (subst (λ (rs : List GenRow). IsSome (row_in n rs)) rows there));
      healthy = λ n h there. (λ i. unwrap_or (result_in (results i) n h) false) ∙ stands.healthy n h (there_before n f s.table.rows (subst (λ (rs : List GenRow). IsSome (row_in n rs)) rows there));
    }
