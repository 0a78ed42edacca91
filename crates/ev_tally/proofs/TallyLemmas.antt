-- Counts of a journal that is one entry longer.
use Rattle.std.proofs.Common.{◌≡◌, ℕ, ◌+◌, ◌<◌, Bool, cond, List, length, take, get_or}
use Rattle.std.proofs.lemmas.List.Filters.{length-filter_more}
use Rattle.ev_types.specs.declared.events.Answer.{Answer}
use Rattle.ev_types.specs.declared.events.Entry.{Entry}
use Rattle.ev_tally.specs.Tallies.{count_answers}

pub count_more : (test : Answer → Bool) (journal : List Entry) (i : ℕ) (other : Entry) → i < length journal
    → count_answers test (take (i + 1) journal) ≡ count_answers test (take i journal) + cond (test (get_or journal i other).answer) 1 0
count_more test journal i other within = length-filter_more (λ (entry : Entry). test entry.answer) journal i other within
