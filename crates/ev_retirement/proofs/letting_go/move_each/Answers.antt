use Rattle.std.proofs.Common.{◌<◌, ℕ, List, length, take, get_or, sym, ap, ◌∙◌, arith}
use Rattle.std.proofs.lemmas.List.{take_more}
use Rattle.ev_model.specs.World.{OpenMember}
use Rattle.ev_retirement.specs.Closing.{moved_each, moved_one}
use Rattle.ev_retirement.proofs.MoveLemmas.{one_more_moved}
use Rattle.ev_retirement.proofs.GoLemmas.{go_after}
use Rattle.ev_retirement.proofs.letting_go.move_each.Goals as goal

pub loop-number-preserved : goal.loop-number-preserved
loop-number-preserved c =
    let numbers : List ℕ = c.args.numbers.now in
    let at : ℕ = c.loop-number.number-index in
    let below : at < length numbers = omega arith in
    let number : ℕ = get_or numbers at 0 in
    record {
      moved = c.in_ok-move_one.ensures.moved
          ∙ ap (λ (ms : List OpenMember). moved_one c.args.worker number c.args.last.now.shown ms) c.loop-number.invariant.moved
          ∙ one_more_moved c.args.worker number (take at numbers) c.args.last.now.shown c.args.ledger.now
          ∙ ap (λ (ns : List ℕ). moved_each c.args.worker ns c.args.last.now.shown c.args.ledger.now) (sym (take_more numbers at 0 below));
      goes = go_after c.args.drain.now c.args.asking.now c.loop-number.asking c.move_one.new.asking c.args.ledger.now c.loop-number.ledger c.move_one.new.ledger
          c.loop-number.invariant.goes c.move_one.ensures.goes;
      found = λ h. c.move_one.ensures.found (c.loop-number.invariant.found h);
    }
