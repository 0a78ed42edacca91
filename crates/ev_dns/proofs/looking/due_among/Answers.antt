use Rattle.std.proofs.Common.{nat_cmp, ap, ◌∙◌}
use Rattle.std.specs.BTreeSet.{contains}
use Rattle.std.proofs.lemmas.Result.{IfOk-weaker}
use Rattle.ev_expand.specs.Numbers.{guarded_so_far}
use Rattle.ev_dns.specs.Known.{due_each}
use Rattle.ev_dns.proofs.OrderLemmas.{each_among}
use Rattle.ev_dns.proofs.looking.due_among.Goals as goal

pub returns : goal.returns
returns c =
    IfOk-weaker c.due_each.result _ _
    (λ due h. h ∙ ap (due_each c.args.answers.now (guarded_so_far c.args.numbers.now) (contains nat_cmp c.args.complete.now)) (c.as_slice.ensures.value ∙ c.in_ok-places.ensures.places)
    ∙ each_among c.args.answers.now (contains nat_cmp c.args.complete.now) (guarded_so_far c.args.numbers.now) c.args.set.now c.in_ok-places.ensures.ordered)
    c.due_each.ensures
