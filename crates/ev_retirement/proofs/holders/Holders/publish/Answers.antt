use Rattle.std.proofs.Common.{sym, ap, ◌∙◌, subst}
use Rattle.std.specs.Arc.{arc_value}
use Rattle.std.specs.Option.{option_map}
use Rattle.ev_model.specs.declared.pictures.Picture.{Picture}
use Rattle.ev_snapshot.specs.Changes.{shown_with}
use Rattle.ev_retirement.specs.Pictures.{PicturesParts, shown_after}
use Rattle.ev_retirement.proofs.UseLemmas.{IsNext, is_next}
use Rattle.ev_retirement.specs.Asking.{AreAskedInOrder, is_aside}
use Rattle.ev_retirement.specs.Closing.{AreFound}
use Rattle.ev_retirement.specs.Holders.{HoldersParts, HoldsFor}
use Rattle.ev_retirement.proofs.AskLemmas.{more_kept, shown_kept}
use Rattle.ev_retirement.proofs.FoundLemmas.{found_more}
use Rattle.ev_retirement.proofs.HoldLemmas.{publish_stands}
use Rattle.ev_retirement.proofs.holders.Holders.publish.Goals as goal

pub invariant_of-self : goal.invariant_of-self
invariant_of-self c = record {
  asked = more_kept c.self.inside.asking c.recall.new.self _ c.recall.ensures.more c.self.invariant.asked;
  found = c.self.invariant.found;
}

pub invariant_of-self-in_default-next : goal.invariant_of-self-in_default-next
invariant_of-self-in_default-next c = record {
  asked = more_kept c.self.inside.asking c.recall.new.self _ c.recall.ensures.more c.self.invariant.asked;
  found = c.self.invariant.found;
}

pub invariant_of-self-in_default-next-2 : goal.invariant_of-self-in_default-next-2
invariant_of-self-in_default-next-2 c = record {
  asked = more_kept c.self.inside.asking c.recall.new.self _ c.recall.ensures.more c.self.invariant.asked;
  found = c.self.invariant.found;
}

pub enter_touched-requires : goal.enter_touched-requires
enter_touched-requires c =
    let last : Picture = c.self.inside.pictures.last in
    let next : Picture = arc_value c.in-Some.next in
    let made : IsNext c.args.changes.now last next = is_next c.args.changes.now last next (sym c.in-Ok-next.ensures.next ∙ ap (option_map arc_value) c.in-Some.is) in
    record {
      after = ap (λ (p : Picture). p.shown) (c.deref.ensures ∙ made.is) ∙ ap (λ (p : Picture). shown_with c.args.changes.now p.shown) (sym c.last-last.ensures);
    }

pub invariant_of-self-in_default-enter_touched : goal.invariant_of-self-in_default-enter_touched
invariant_of-self-in_default-enter_touched c = record {
  asked = more_kept c.self.inside.asking c.recall.new.self _ c.recall.ensures.more c.self.invariant.asked;
  found = found_more c.self.inside.closing c.enter_touched.new.closing c.self.inside.drain c.self.inside.drain c.self.inside.pictures.last.shown c.self.inside.ledger
      c.enter_touched.ensures.more (λ n h. h) c.self.invariant.found;
}

pub invariant_of-self-2 : goal.invariant_of-self-2
invariant_of-self-2 c =
    let holders : HoldersParts = record { pictures = c.self.inside.pictures; ledger = c.self.inside.ledger; drain = c.self.inside.drain } in
    record {
      asked = subst (λ (ps : PicturesParts). AreAskedInOrder c.recall.new.self (record holders { pictures = ps })) (sym c.publish.ensures.published)
          (shown_kept (shown_after c.args.changes.now c.self.inside.pictures) c.recall.new.self holders
          (λ number. ap (λ v. is_aside c.recall.new.self v number) (sym c.version.ensures.last) ∙ c.in-Ok.ensures.none number)
          (more_kept c.self.inside.asking c.recall.new.self holders c.recall.ensures.more c.self.invariant.asked));
      found = subst (λ (p : Picture). AreFound c.enter_touched.new.closing c.self.inside.drain p.shown c.self.inside.ledger) (c.deref.ensures ∙ sym c.publish.ensures.last)
          (c.in-Ok-enter_touched.ensures.found c.self.inside.drain
          (subst (λ (p : Picture). AreFound c.self.inside.closing c.self.inside.drain p.shown c.self.inside.ledger) (sym c.last-last.ensures) c.self.invariant.found));
    }

pub returns-clause-world : goal.returns-clause-world
returns-clause-world c world stands shown =
    let here : HoldsFor _ world = subst (λ (v : HoldersParts). HoldsFor v world) (sym c.self.view_is) stands in
    publish_stands _ c.publish.new.self world here (c.publish.ensures.world world here.pictures (ap (λ (v : HoldersParts). shown_after c.args.changes.now v.pictures) c.self.view_is ∙ shown))
