use Rattle.std.proofs.Common.{◌≡◌, ◌||◌, ℕ, take}
use Rattle.ev_indexes.specs.Due.{is_one_of}
use Rattle.ev_proxy.proofs.changed.Changed.put_all.Given as goal

abbrev pub invariant-loop-number : goal.invariant-loop-number
invariant-loop-number l = (n : ℕ) → is_one_of l.self n ≡ (is_one_of l.initial.self n || is_one_of (take l.number-index l.numbers) n)
