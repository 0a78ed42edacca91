use Rattle.std.proofs.Common.{List, sym, subst}
use Rattle.ev_retirement.specs.Holders.{HoldersParts, HoldsFor}
use Rattle.ev_retirement.proofs.HoldLemmas.{remove_stands}
use Rattle.ev_drain.specs.Retired.{Retired}
use Rattle.ev_retirement.specs.Asking.{AreAskedInOrder}
use Rattle.ev_retirement.proofs.AskLemmas.{removed_kept}
use Rattle.ev_retirement.proofs.FoundLemmas.{removed_found}
use Rattle.ev_retirement.proofs.holders.Holders.remove.Goals as goal

pub returns : goal.returns
returns c = record {
  world = λ world stands.
      let here : HoldsFor _ world = subst (λ (v : HoldersParts). HoldsFor v world) (sym c.self.view_is) stands in
      remove_stands c.args.number _ c.remove.new.self world here c.remove.ensures.removed (c.remove.ensures.world world.rows world.expired here.retired);
}

pub invariant_of-self : goal.invariant_of-self
invariant_of-self c =
    let holders : HoldersParts = record { pictures = c.self.inside.pictures; ledger = c.self.inside.ledger; drain = c.self.inside.drain } in
    record {
      asked = subst (λ (drain : List Retired). AreAskedInOrder c.forget.new.self (record holders { drain = drain })) (sym c.remove.ensures.removed)
          (removed_kept c.args.number c.self.inside.asking c.forget.new.self holders c.forget.ensures c.self.invariant.asked);
      found = removed_found c.args.number c.self.inside.closing c.self.inside.drain c.remove.new.self c.self.inside.pictures.last.shown c.self.inside.ledger c.remove.ensures.removed c.self.invariant.found;
    }
