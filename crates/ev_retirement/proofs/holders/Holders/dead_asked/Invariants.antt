use Rattle.std.proofs.Common.{◌≡◌, filter, take}
use Rattle.ev_retirement.specs.Asking.{is_dead_now}
use Rattle.ev_retirement.proofs.holders.Holders.dead_asked.Given as goal

abbrev pub invariant-loop-number : goal.invariant-loop-number
invariant-loop-number l = record {
  dead : l.dead.items ≡ filter (is_dead_now l.initial.self) (take l.number-index l.number-items);
  same : l.self ≡ l.initial.self;
}
