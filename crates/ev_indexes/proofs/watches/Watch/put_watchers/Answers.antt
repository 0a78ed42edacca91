use Rattle.std.proofs.Common.{◌∙◌, ◌++◌, append_assoc}
use Rattle.ev_indexes.proofs.watches.Watch.put_watchers.Goals as goal

pub returns : goal.returns
returns c =
    let numbers = c.args.numbers.now in
    let watch = c.args.self.now in
    c.in_ok-put_all-2.ensures
    ∙ (λ i. c.in_ok-put_all.ensures i ++ c.as_slice-2.result.now)
    ∙ (λ i. (numbers ++ c.as_slice.ensures.elements i) ++ c.as_slice-2.ensures.elements i)
    ∙ append_assoc numbers watch.unlimited watch.limited
