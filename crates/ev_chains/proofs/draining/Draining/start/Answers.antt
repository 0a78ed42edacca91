use Rattle.std.proofs.Common.{◌∙◌, length, ap, arith}
use Rattle.std.proofs.lemmas.List.{length-append}
use Rattle.ev_chains.proofs.draining.Draining.start.Goals as goal

pub invariant_of-self-2 : goal.invariant_of-self-2
invariant_of-self-2 c =
    let items = ap length c.push_all.ensures.items ∙ length-append c.reserve.new.self.items c.as_slice.result.now in
    let same = ap length c.reserve.ensures.items in
    let len = c.reserve.ensures.len in
    let given = c.in_ok-reserve.ensures.ok in
    let capacity = c.push_all.ensures.capacity in
    let few = c.put_all.ensures.few in
    let keys = ap length c.reserve-2.ensures.keys in
    let all = c.in_ok-parted.ensures.all in
    let first = c.as_slice.ensures.len in
    let second = c.as_slice-2.ensures.len in
    let busy = c.len.ensures.len in
    record { room = omega (arith, items, same, len, given, capacity, few, keys, all, first, second, busy) }
