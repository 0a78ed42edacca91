use Rattle.std.proofs.Common.{◌≡◌, ◌∙◌, List, map, ap, rules}
use Rattle.std.specs.List.{flat_map}
use Rattle.std.specs.List.Sorted.{IsStrictlySortedBy}
use Rattle.std.specs.Map.Iter.{deref}
use Rattle.std.specs.Ordering.{nat_cmp}
use Rattle.std.proofs.lemmas.Map.Iter.{iter_end}
use Rattle.ev_expand.specs.Guarding.{Guarded}
use Rattle.ev_expand.specs.Numbers.{guarded_so_far}
use Rattle.ev_tls.specs.Looking.{due_one, marks_of, may_be_due}
use Rattle.ev_tls.proofs.LookLemmas.{found_due, all_held}
use Rattle.ev_tls.proofs.looking.look.Goals as goal

pub returns : goal.returns
returns c = λ served.
    let gs : List Guarded = guarded_so_far c.args.numbers.now in
    let ordered : IsStrictlySortedBy nat_cmp c.in_ok-candidates.candidates.keys = c.into_iter-place-iterator.ensures.into_iter_gives.4 in
    let all : map deref c.loop-place.yielded ≡ c.in_ok-candidates.candidates.keys = search (rules, iter_end) in
    c.loop-place.invariant ∙ ap (flat_map (due_one (marks_of c.args.complete.now c.args.marks.now) c.args.values.now gs)) all
    ∙ found_due (marks_of c.args.complete.now c.args.marks.now) c.args.values.now gs c.in_ok-candidates.candidates.keys (may_be_due c.args.complete.now c.args.marks.now) ordered
    c.in_ok-candidates.ensures (all_held c.args.complete.now c.args.marks.now gs served)
