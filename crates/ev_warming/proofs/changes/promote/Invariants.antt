use Rattle.std.proofs.Common.{◌≡◌, ◌+◌, ◌*◌, ◌≤◌, ◌||◌, ℕ, length}
use Rattle.ev_indexes.specs.Due.{is_one_of}
use Rattle.ev_indexes.specs.Ready.{is_ready_in}
use Rattle.ev_indexes.specs.Indexes.{IsIndexed, SameMarks}
use Rattle.ev_warming.specs.Promotion.{rows_promoted}
use Rattle.ev_warming.specs.Changes.{began_to_drain}
use Rattle.ev_warming.proofs.changes.promote.Given as goal

abbrev pub invariant-loop-number : goal.invariant-loop-number
invariant-loop-number g l = record {
  indexed : IsIndexed l.state;
  rows : rows_promoted (is_ready_in l.initial.state.watches l.initial.state.results) l.state.table.rows
      ≡ rows_promoted (is_ready_in l.initial.state.watches l.initial.state.results) l.initial.state.table.rows;
  made : l.state.table.made ≡ l.initial.state.table.made;
  marks : SameMarks l.initial.state.watches l.state.watches;
  results : l.state.results ≡ l.initial.state.results;
  served : (n : ℕ) → (is_one_of l.served n || is_one_of l.state.due n) ≡ is_one_of l.initial.state.due n;
  drained : (n : ℕ) → (is_one_of l.drained n || began_to_drain n l.state.table.rows (rows_promoted (is_ready_in l.initial.state.watches l.initial.state.results) l.initial.state.table.rows))
      ≡ began_to_drain n l.initial.state.table.rows (rows_promoted (is_ready_in l.initial.state.watches l.initial.state.results) l.initial.state.table.rows);
  steps : l.steps ≤ l.initial.steps + 3 * length l.served;
}

abbrev pub decreases-loop-number : goal.decreases-loop-number
decreases-loop-number g l = length l.state.due
