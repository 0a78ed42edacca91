use Rattle.std.proofs.Common.{◌≡◌, ◌∙◌, ◌+◌, [], ◌∷◌, refl, sym, ap, length, drop, arith}
use Rattle.ev_types.specs.SameHosts.{rows_same}
use Rattle.ev_hosts.specs.Chosen.{chosen_by}
use Rattle.ev_hosts.proofs.ChosenLemmas.{chosen_no, chosen_yes, chosen_end, length_chosen, differ_in_length}
use Rattle.ev_hosts.proofs.walks.are_same.Goals as goal

pub returns-then-count : goal.returns-then-count
returns-then-count c =
    sym (differ_in_length (chosen_by c.args.marks.now c.args.rows.now) (chosen_by c.args.other_marks.now c.args.other_rows.now)
    (λ e. c.if-count.true (c.count.ensures ∙ sym (length_chosen c.args.marks.now c.args.rows.now c.requires.marked)
    ∙ e ∙ length_chosen c.args.other_marks.now c.args.other_rows.now c.requires.other_marked ∙ sym c.count-2.ensures)))

pub loop-place-init : goal.loop-place-init
loop-place-init c = record {
  within = omega arith;
  rest = refl;
  long = length_chosen c.args.marks.now c.args.rows.now c.requires.marked
      ∙ sym c.count.ensures ∙ c.if-count.false ∙ c.count-2.ensures
      ∙ sym (length_chosen c.args.other_marks.now c.args.other_rows.now c.requires.other_marked);
}

pub loop-place-preserved-then-not-get : goal.loop-place-preserved-then-not-get
loop-place-preserved-then-not-get c =
    let marks = c.args.marks.now in
    let rows = c.args.rows.now in
    let place = c.loop-place.place in
    let same : chosen_by (drop place marks) (drop place rows) ≡ chosen_by (drop (place + 1) marks) (drop (place + 1) rows) =
    chosen_no marks rows place (omega (arith, c.requires.marked)) (sym c.get.ensures ∙ c.if-not-get.true) in
    record {
      within = c.loop-place.invariant.within;
      rest = c.loop-place.invariant.rest
          ∙ ap (λ chosen. rows_same chosen (chosen_by (drop c.loop-place.other c.args.other_marks.now) (drop c.loop-place.other c.args.other_rows.now))) same;
      long = sym (ap length same) ∙ c.loop-place.invariant.long;
    }

pub returns-then-other-other_rows : goal.returns-then-other-other_rows
returns-then-other-other_rows c =
    let marks = c.args.marks.now in
    let rows = c.args.rows.now in
    let place = c.loop-place.place in
    let row = c.index-rows-place.result in
    let some : chosen_by (drop place marks) (drop place rows) ≡ row ∷ chosen_by (drop (place + 1) marks) (drop (place + 1) rows) =
    chosen_yes marks rows place row c.requires.marked c.loop-place-test.true c.index-rows-place.is (sym c.get.ensures ∙ c.if-not-get.false) in
    let none : chosen_by (drop c.loop-place.other c.args.other_marks.now) (drop c.loop-place.other c.args.other_rows.now) ≡ [] =
    c.next_marked-other.ensures.skips c.args.other_rows.now
    ∙ chosen_end c.args.other_marks.now c.args.other_rows.now c.next_marked-other.result (omega (arith, c.if-other-other_rows.true)) in
    sym (c.loop-place.invariant.rest ∙ (λ i. rows_same (some i) (none i)))
