use Rattle.std.proofs.Common.{sym, ◌∙◌}
use Rattle.ev_retirement.specs.Holders.{HoldersParts}
use Rattle.ev_retirement.proofs.AskLemmas.{held_kept, more_kept}
use Rattle.ev_retirement.proofs.holders.Holders.ask.Goals as goal

pub invariant_of-self : goal.invariant_of-self
invariant_of-self c = record {
  asked = more_kept c.self.inside.asking c.set_aside.new.asking _ c.set_aside.ensures.more c.self.invariant.asked;
  found = c.self.invariant.found;
}

pub invariant_of-self-2 : goal.invariant_of-self-2
invariant_of-self-2 c =
    let holders : HoldersParts = record { pictures = c.self.inside.pictures; ledger = c.self.inside.ledger; drain = c.self.inside.drain } in
    record {
      asked = held_kept c.args.number c.set_aside.new.asking c.forget.new.self holders c.forget.ensures (sym c.is_dead.ensures.dead ∙ c.if-is_dead.false) c.in_ok-set_aside.ensures.aside
          (more_kept c.self.inside.asking c.set_aside.new.asking holders c.set_aside.ensures.more c.self.invariant.asked);
      found = c.self.invariant.found;
    }
