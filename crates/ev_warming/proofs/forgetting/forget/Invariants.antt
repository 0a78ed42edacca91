use Rattle.std.proofs.Common.{◌≡◌, ◌+◌, ◌&&◌, ℕ, None, is_some, cond, take}
use Rattle.ev_types.specs.declared.hosts.Host.{Host}
use Rattle.ev_indexes.specs.KeptEndpoints.{marked_in, result_in}
use Rattle.ev_indexes.specs.Tables.{row_in}
use Rattle.ev_lookups.specs.declared.kind_keys.Key.{Key}
use Rattle.ev_indexes.specs.Due.{is_one_of}
use Rattle.ev_indexes.specs.Watched.{unwatched, watch_in}
use Rattle.ev_indexes.specs.Indexes.{IsIndexed}
use Rattle.ev_warming.specs.Forgetting.{is_need_of, is_idle, loses_result}
use Rattle.ev_warming.proofs.forgetting.forget.Given as goal

abbrev pub invariant-loop-number : goal.invariant-loop-number
invariant-loop-number g l = record {
  indexed : IsIndexed l.state;
  others : l.state ≡ record l.initial.state { watches = l.state.watches; results = l.state.results };
  watches : (q : Key) → watch_in l.state.watches q
      ≡ cond (is_need_of l.initial.state.table.rows (take l.number-index l.stale) q && is_idle l.initial.state.table.rows q) unwatched (watch_in l.initial.state.watches q);
  results : (n : ℕ) (h : Host) → result_in l.state.results n h
      ≡ cond (is_one_of (take l.number-index l.stale) n && loses_result l.initial.state.watches h (row_in n l.initial.state.table.rows)) None (result_in l.initial.state.results n h);
  marks : (n : ℕ) → marked_in l.state.results n
      ≡ cond (is_one_of (take l.number-index l.stale) n && is_some (row_in n l.initial.state.table.rows)) None (marked_in l.initial.state.results n);
  steps : l.steps ≡ l.initial.steps + l.number-index;
}
