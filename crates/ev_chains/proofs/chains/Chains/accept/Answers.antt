use Rattle.std.proofs.Common.{◌∙◌, sym, subst}
use Rattle.ev_ledger.specs.Members.{member_on, with_member}
use Rattle.ev_chains.specs.Kept.{AreKept, ArePlaced}
use Rattle.ev_chains.proofs.NumberLemmas.{chosen_row}
use Rattle.ev_chains.proofs.KeptLemmas.{placed_accept}
use Rattle.ev_chains.proofs.chains.Chains.accept.Goals as goal

pub invariant_of-self-in-Some : goal.invariant_of-self-in-Some
invariant_of-self-in-Some c =
    let self = c.self.inside in
    let kept = c.self.invariant in
    let number = c.in-Some.number in
    let row = chosen_row c.args.server.now c.args.port self.serving number (sym c.in_ok-number.ensures ∙ c.in-Some.is) in
    subst (AreKept self.made self.serving self.began.items self.draining.idle.items self.draining.busy.keys) (sym c.in_ok-open-in-Some.ensures.opened)
    (record {
      numbered = kept.numbered;
      placed =
          subst (λ on. ArePlaced self.began.items self.draining.idle.items self.draining.busy.keys (with_member (member_on 0 c.args.conn on) self.ledger))
          (sym c.on_chain.ensures)
          (placed_accept self.began.items self.draining.idle.items self.draining.busy.keys self.ledger kept.placed c.args.conn number (kept.numbered.other number row.0 row.1));
    })
