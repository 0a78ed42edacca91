use Rattle.std.proofs.Common.{◌<◌, ℕ, List, length, take, get_or, sym, ap, ◌∙◌, arith}
use Rattle.std.proofs.lemmas.List.{take_more}
use Rattle.ev_model.specs.World.{OpenMember}
use Rattle.ev_model.specs.Connections.{closed}
use Rattle.ev_retirement.specs.Closing.{closed_all}
use Rattle.ev_retirement.proofs.CloseLemmas.{none_gone, one_more_gone}
use Rattle.ev_retirement.proofs.GoLemmas.{go_after, same_go}
use Rattle.ev_retirement.proofs.letting_go.close_each.Goals as goal

pub loop-number-init : goal.loop-number-init
loop-number-init c = record {
  closed = none_gone c.args.worker c.args.ledger.now;
  goes = same_go c.args.drain.now c.args.asking.now c.args.ledger.now;
  found = λ shown h. h;
}

pub returns-in_err-close_one-clause-found : goal.returns-in_err-close_one-clause-found
returns-in_err-close_one-clause-found c shown h = c.close_one.ensures.found shown (c.loop-number.invariant.found shown h)

pub loop-number-preserved : goal.loop-number-preserved
loop-number-preserved c =
    let numbers : List ℕ = c.args.numbers.now in
    let at : ℕ = c.loop-number.number-index in
    let below : at < length numbers = omega arith in
    let number : ℕ = get_or numbers at 0 in
    record {
      closed = c.in_ok-close_one.ensures.closed
          ∙ ap (λ (ms : List OpenMember). (closed number c.args.worker ms).opened) c.loop-number.invariant.closed
          ∙ one_more_gone c.args.worker number (take at numbers) c.args.ledger.now
          ∙ ap (λ (ns : List ℕ). closed_all c.args.worker ns c.args.ledger.now) (sym (take_more numbers at 0 below));
      goes = go_after c.args.drain.now c.args.asking.now c.loop-number.asking c.close_one.new.asking c.args.ledger.now c.loop-number.ledger c.close_one.new.ledger
          c.loop-number.invariant.goes c.close_one.ensures.goes;
      found = λ shown h. c.close_one.ensures.found shown (c.loop-number.invariant.found shown h);
    }
