use Rattle.std.proofs.Common.{◌≡◌, ◌∙◌, ◌+◌, sym, ap, sum, map, drop, arith}
use Rattle.ev_model.specs.Choice.{weight_at}
use Rattle.ev_hosts.specs.Chosen.{chosen_by}
use Rattle.ev_hosts.proofs.ChosenLemmas.{chosen_no}
use Rattle.ev_hosts.proofs.PlaceLemmas.{above, above_start}
use Rattle.ev_hosts.proofs.walks.place_above.Goals as goal

pub loop-place-init : goal.loop-place-init
loop-place-init c =
    record { rest = above_start c.args.n (map (weight_at c.args.priority) (chosen_by c.args.marks.now c.args.rows.now)); so_far = omega arith; few = omega arith }

pub loop-place-preserved-then-not-get : goal.loop-place-preserved-then-not-get
loop-place-preserved-then-not-get c =
    let marks = c.args.marks.now in
    let rows = c.args.rows.now in
    let place = c.loop-place.place in
    let same : chosen_by (drop place marks) (drop place rows) ≡ chosen_by (drop (place + 1) marks) (drop (place + 1) rows) =
    chosen_no marks rows place (omega (arith, c.requires.marked)) (sym c.get.ensures ∙ c.if-not-get.true) in
    record {
      rest = c.loop-place.invariant.rest ∙ ap (λ chosen. above c.args.n c.loop-place.sum c.loop-place.chosen (map (weight_at c.args.priority) chosen)) same;
      so_far = ap (λ chosen. c.loop-place.sum + sum (map (weight_at c.args.priority) chosen)) (sym same) ∙ c.loop-place.invariant.so_far;
      few = omega (arith, c.loop-place.invariant.few);
    }
