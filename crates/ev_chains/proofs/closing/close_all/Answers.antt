use Rattle.std.proofs.Common.{◌<◌, ℕ, List, length, take, get_or, sym, ap, ◌∙◌, arith}
use Rattle.std.proofs.lemmas.List.{take_more}
use Rattle.ev_model.specs.World.{OpenMember}
use Rattle.ev_model.specs.Connections.{closed}
use Rattle.ev_chains.specs.Closing.{closed_all}
use Rattle.ev_chains.proofs.CloseLemmas.{none_gone, one_more_gone}
use Rattle.ev_chains.proofs.closing.close_all.Goals as goal

pub loop-conn-init : goal.loop-conn-init
loop-conn-init c = none_gone c.args.ledger.now

pub loop-conn-preserved : goal.loop-conn-preserved
loop-conn-preserved c =
    let numbers : List ℕ = c.args.conns.now in
    let at : ℕ = c.loop-conn.conn-index in
    let below : at < length numbers = omega arith in
    let number : ℕ = get_or numbers at 0 in
    c.close.ensures.closed
    ∙ ap (λ (ms : List OpenMember). (closed number 0 ms).opened) c.loop-conn.invariant
    ∙ one_more_gone number (take at numbers) c.args.ledger.now
    ∙ ap (λ (ns : List ℕ). closed_all ns c.args.ledger.now) (sym (take_more numbers at 0 below))
