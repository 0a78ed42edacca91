use Rattle.std.proofs.Common.{◌≡◌, ◌+◌, take, vec_len}
use Rattle.ev_chains.specs.State.{idle_among, busy_among}
use Rattle.ev_chains.proofs.closing.part_draining.Given as goal

abbrev pub invariant-loop-number : goal.invariant-loop-number
invariant-loop-number l =
    let seen = take l.number-index l.draining in
    record {
      idle : l.idle.items ≡ idle_among l.ledger seen;
      busy : l.busy.items ≡ busy_among l.ledger seen;
      all : vec_len l.idle + vec_len l.busy ≡ l.number-index;
    }
