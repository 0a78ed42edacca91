use Rattle.std.proofs.Common.{◌≡◌, ◌∙◌, ◌≤◌, ◌==◌, ◌-◌, ◌+◌, ◌∷◌, List, sym, ap, subst, sum, map, drop, true, arith}
use Rattle.std.specs.List.{list_any}
use Rattle.ev_types.specs.Hosts.{HostRowParts}
use Rattle.ev_model.specs.Choice.{weight_at}
use Rattle.ev_hosts.specs.Chosen.{chosen_by}
use Rattle.ev_hosts.proofs.ChosenLemmas.{chosen_back_yes, chosen_back_no}
use Rattle.ev_hosts.proofs.PlaceLemmas.{weights_more, some_more}
use Rattle.ev_hosts.proofs.walks.weight_sum.Goals as goal

pub loop-place-preserved-then-get : goal.loop-place-preserved-then-get
loop-place-preserved-then-get c =
    let marks = c.args.marks.now in
    let rows = c.args.rows.now in
    let place = c.loop-place.place in
    let row = c.index-rows-place.result in
    let Some : List HostRowParts → Type 0 = λ chosen. list_any (λ (r : HostRowParts). r.priority == c.args.priority) chosen ≡ true → 1 ≤ c.loop-place.sum + c.weight_at.result in
    let more : chosen_by (drop (place - 1) marks) (drop (place - 1) rows) ≡ row ∷ chosen_by (drop place marks) (drop place rows) =
    chosen_back_yes marks rows place row c.requires.marked (omega arith) (omega arith) c.index-rows-place.is (sym c.get.ensures ∙ c.if-get.true) in
    record {
      so_far = omega (arith, c.loop-place.invariant.so_far, c.weight_at.ensures.weight, weights_more c.args.priority row (chosen_by (drop place marks) (drop place rows)), ap (λ chosen. sum (map (weight_at c.args.priority) chosen)) more);
      bound = omega (arith, c.loop-place.invariant.bound);
      some = subst Some (sym more) (some_more c.args.priority row (chosen_by (drop place marks) (drop place rows)) c.loop-place.sum c.weight_at.result c.weight_at.ensures.some c.loop-place.invariant.some);
    }

pub loop-place-preserved : goal.loop-place-preserved
loop-place-preserved c =
    let marks = c.args.marks.now in
    let rows = c.args.rows.now in
    let place = c.loop-place.place in
    let Some : List HostRowParts → Type 0 = λ chosen. list_any (λ (r : HostRowParts). r.priority == c.args.priority) chosen ≡ true → 1 ≤ c.loop-place.sum in
    let same : chosen_by (drop (place - 1) marks) (drop (place - 1) rows) ≡ chosen_by (drop place marks) (drop place rows) =
    chosen_back_no marks rows place (omega arith) (omega (arith, c.requires.marked)) (sym c.get.ensures ∙ c.if-get.false) in
    record {
      so_far = c.loop-place.invariant.so_far ∙ ap (λ chosen. sum (map (weight_at c.args.priority) chosen)) (sym same);
      bound = omega (arith, c.loop-place.invariant.bound);
      some = subst Some (sym same) c.loop-place.invariant.some;
    }

pub returns-clause-some : goal.returns-clause-some
returns-clause-some c =
    let marks = c.args.marks.now in
    let rows = c.args.rows.now in
    let start : c.loop-place.place ≡ 0 = omega (arith, c.loop-place-test.false) in
    subst (λ p. list_any (λ (r : HostRowParts). r.priority == c.args.priority) (chosen_by (drop p marks) (drop p rows)) ≡ true → 1 ≤ c.loop-place.sum) start
    c.loop-place.invariant.some
