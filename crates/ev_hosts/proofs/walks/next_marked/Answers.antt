use Rattle.std.proofs.Common.{◌∙◌, sym, arith}
use Rattle.ev_hosts.proofs.ChosenLemmas.{chosen_no}
use Rattle.ev_hosts.proofs.walks.next_marked.Goals as goal

pub loop-place-preserved : goal.loop-place-preserved
loop-place-preserved c = λ rows.
    c.loop-place.invariant rows ∙ chosen_no c.args.marks.now rows c.loop-place.place (omega (arith, c.len-place-end.ensures)) (sym c.get.ensures ∙ c.if-get.false)
