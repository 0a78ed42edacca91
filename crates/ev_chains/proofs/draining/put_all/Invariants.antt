use Rattle.std.proofs.Common.{◌+◌, ◌≤◌, length, nat_eq, take}
use Rattle.indexmap.specs.IndexSet.{contains, index_set_len, spare}
use Rattle.ev_model.specs.Picture.{has_number}
use Rattle.ev_chains.specs.Sets.{Gains}
use Rattle.ev_chains.proofs.draining.put_all.Given as goal

abbrev pub invariant-loop-number : goal.invariant-loop-number
invariant-loop-number l = record {
  gains : Gains (contains nat_eq) (λ n. has_number n (take l.number-index l.numbers)) l.initial.set l.set;
  few : index_set_len l.set ≤ index_set_len l.initial.set + l.number-index;
  room : length l.numbers ≤ spare l.set + l.number-index;
}
