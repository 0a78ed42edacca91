use Rattle.std.proofs.Common.{◌≡◌, ◌∙◌, ◌-◌, ◌∷◌, Some, sym, ap, drop, arith}
use Rattle.ev_hosts.specs.Chosen.{chosen_by, lowest_of, lowest_with}
use Rattle.ev_hosts.proofs.ChosenLemmas.{chosen_back_no, chosen_back_yes}
use Rattle.ev_hosts.proofs.PriorityLemmas.{lowest_zero}
use Rattle.ev_hosts.proofs.walks.lowest_priority.Goals as goal

pub loop-place-preserved-then-not-get : goal.loop-place-preserved-then-not-get
loop-place-preserved-then-not-get c =
    c.loop-place.invariant
    ∙ ap lowest_of
    (sym (chosen_back_no c.args.marks.now c.args.rows.now c.loop-place.place (omega arith) (omega (arith, c.requires)) (sym c.get.ensures ∙ c.if-not-get.true)))

pub returns-then-priority-eq0 : goal.returns-then-priority-eq0
returns-then-priority-eq0 c =
    let marks = c.args.marks.now in
    let rows = c.args.rows.now in
    let place = c.loop-place.place in
    let row = c.index-rows-place.result in
    let more : chosen_by (drop (place - 1) marks) (drop (place - 1) rows) ≡ row ∷ chosen_by (drop place marks) (drop place rows) =
    chosen_back_yes marks rows place row c.requires (omega arith) (omega arith) c.index-rows-place.is (sym c.get.ensures ∙ c.if-not-get.false) in
    sym (lowest_zero marks rows (place - 1)
    (ap lowest_of more
    ∙ ap (λ lowest. Some (lowest_with row.priority lowest)) (sym c.loop-place.invariant)
    ∙ ap Some (sym c.lower-priority.ensures ∙ c.if-priority-eq0.true)))
