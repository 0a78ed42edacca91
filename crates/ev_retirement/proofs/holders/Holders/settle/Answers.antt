use Rattle.std.proofs.Common.{◌≡◌, ◌∙◌, sym, ap, subst}
use Rattle.std.specs.Arc.{arc_value}
use Rattle.ev_types.specs.declared.events.Answer.TheVariants.{Settled}
use Rattle.ev_model.specs.World.{last_version}
use Rattle.ev_model.specs.declared.pictures.Picture.{Picture}
use Rattle.ev_retirement.specs.Pictures.{PicturesParts}
use Rattle.ev_retirement.specs.Asking.{AreAskedInOrder}
use Rattle.ev_retirement.specs.Closing.{AreFound, closed_all, closes, moved_each, moves, numbers_where}
use Rattle.ev_retirement.specs.Holders.{HoldersParts, HoldsFor}
use Rattle.ev_retirement.proofs.AskLemmas.{go_kept, more_kept, settled_kept}
use Rattle.ev_retirement.proofs.MoveLemmas.{settle_stands, settle_told}
use Rattle.ev_retirement.proofs.holders.Holders.settle.Goals as goal

pub invariant_of-self : goal.invariant_of-self
invariant_of-self c =
    let holders : HoldersParts = record { pictures = c.self.inside.pictures; ledger = c.self.inside.ledger; drain = c.self.inside.drain } in
    record {
      asked = go_kept c.self.inside.asking c.settle_each.new.asking holders c.settle_each.new.ledger c.settle_each.ensures.goes c.self.invariant.asked;
      found = subst (λ (p : Picture). AreFound c.settle_each.new.closing c.self.inside.drain p.shown c.settle_each.new.ledger) c.last-last.ensures
          (c.settle_each.ensures.found
          (subst (λ (p : Picture). AreFound c.self.inside.closing c.self.inside.drain p.shown c.self.inside.ledger) (sym c.last-last.ensures) c.self.invariant.found));
    }

pub invariant_of-self-in_default-recall_left : goal.invariant_of-self-in_default-recall_left
invariant_of-self-in_default-recall_left c =
    let holders : HoldersParts = record { pictures = c.self.inside.pictures; ledger = c.self.inside.ledger; drain = c.self.inside.drain } in
    record {
      asked = more_kept c.settle_each.new.asking c.recall_left.new.asking (record holders { ledger = c.settle_each.new.ledger }) c.recall_left.ensures.more
          (go_kept c.self.inside.asking c.settle_each.new.asking holders c.settle_each.new.ledger c.settle_each.ensures.goes c.self.invariant.asked);
      found = subst (λ (p : Picture). AreFound c.settle_each.new.closing c.self.inside.drain p.shown c.settle_each.new.ledger) c.last-last.ensures
          (c.settle_each.ensures.found
          (subst (λ (p : Picture). AreFound c.self.inside.closing c.self.inside.drain p.shown c.self.inside.ledger) (sym c.last-last.ensures) c.self.invariant.found));
    }

pub invariant_of-self-in_default-settle : goal.invariant_of-self-in_default-settle
invariant_of-self-in_default-settle c =
    let holders : HoldersParts = record { pictures = c.self.inside.pictures; ledger = c.self.inside.ledger; drain = c.self.inside.drain } in
    record {
      asked = subst (λ (ps : PicturesParts). AreAskedInOrder c.recall_left.new.asking (record holders { pictures = ps; ledger = c.settle_each.new.ledger })) (sym c.in_default-settle.ensures.err)
          (more_kept c.settle_each.new.asking c.recall_left.new.asking (record holders { ledger = c.settle_each.new.ledger }) c.recall_left.ensures.more
          (go_kept c.self.inside.asking c.settle_each.new.asking holders c.settle_each.new.ledger c.settle_each.ensures.goes c.self.invariant.asked));
      found = subst (λ (ps : PicturesParts). AreFound c.settle_each.new.closing c.self.inside.drain ps.last.shown c.settle_each.new.ledger) (sym c.in_default-settle.ensures.err)
          (subst (λ (p : Picture). AreFound c.settle_each.new.closing c.self.inside.drain p.shown c.settle_each.new.ledger) c.last-last.ensures
          (c.settle_each.ensures.found
          (subst (λ (p : Picture). AreFound c.self.inside.closing c.self.inside.drain p.shown c.self.inside.ledger) (sym c.last-last.ensures) c.self.invariant.found)));
    }

pub invariant_of-self-2 : goal.invariant_of-self-2
invariant_of-self-2 c =
    let holders : HoldersParts = record { pictures = c.self.inside.pictures; ledger = c.self.inside.ledger; drain = c.self.inside.drain } in
    record {
      asked = subst (λ (ps : PicturesParts). AreAskedInOrder c.recall_left.new.asking (record holders { pictures = ps; ledger = c.settle_each.new.ledger })) (sym c.in-Ok-settle.ensures.settled)
          (settled_kept c.args.worker c.recall_left.new.asking (record holders { ledger = c.settle_each.new.ledger }) c.in-Ok-recall_left.ensures.left
          (more_kept c.settle_each.new.asking c.recall_left.new.asking (record holders { ledger = c.settle_each.new.ledger }) c.recall_left.ensures.more
          (go_kept c.self.inside.asking c.settle_each.new.asking holders c.settle_each.new.ledger c.settle_each.ensures.goes c.self.invariant.asked)));
      found = subst (λ (ps : PicturesParts). AreFound c.settle_each.new.closing c.self.inside.drain ps.last.shown c.settle_each.new.ledger) (sym c.in-Ok-settle.ensures.settled)
          (subst (λ (p : Picture). AreFound c.settle_each.new.closing c.self.inside.drain p.shown c.settle_each.new.ledger) c.last-last.ensures
          (c.settle_each.ensures.found
          (subst (λ (p : Picture). AreFound c.self.inside.closing c.self.inside.drain p.shown c.self.inside.ledger) (sym c.last-last.ensures) c.self.invariant.found)));
    }

told : goal.returns-clause-told
told c world stands =
    let here : HoldsFor _ world = subst (λ (v : HoldersParts). HoldsFor v world) (sym c.self.view_is) stands in
    settle_told c.args.worker _ (arc_value c.in-Ok-settle.snapshot) c.from_vec.result c.from_vec-2.result world here
    (c.from_vec.ensures.elements ∙ c.in-Ok.ensures.closed
    ∙ ap (λ (p : Picture). numbers_where (closes c.self.inside.drain p.shown) c.args.worker c.self.inside.ledger) c.last-last.ensures)
    (c.from_vec-2.ensures.elements ∙ c.in-Ok.ensures.moved
    ∙ ap (λ (p : Picture). numbers_where (moves p.shown) c.args.worker c.self.inside.ledger) c.last-last.ensures)
    c.in-Ok-settle.ensures.snapshot

pub returns-clause-told : goal.returns-clause-told
returns-clause-told c world stands = told c world stands

pub returns-clause-answer : goal.returns-clause-answer
returns-clause-answer c world stands =
    let is = told c world stands in
    let version : c.version.result ≡ last_version world = c.version.ensures ∙ ap (λ (p : Picture). p.version) (c.deref.ensures ∙ is.shows) in
    λ i. Settled (sym is.closes i) (sym is.moves i) (sym version i)

pub returns-clause-world : goal.returns-clause-world
returns-clause-world c world stands =
    let here : HoldsFor _ world = subst (λ (v : HoldersParts). HoldsFor v world) (sym c.self.view_is) stands in
    settle_stands c.args.worker _ c.settle.new.self c.settle_each.new.ledger c.in-Ok.due.closed.items c.in-Ok.due.moved.items world here c.in-Ok.ensures.apart
    (c.in-Ok.ensures.closed ∙ ap (λ (p : Picture). numbers_where (closes c.self.inside.drain p.shown) c.args.worker c.self.inside.ledger) c.last-last.ensures)
    (c.in-Ok.ensures.moved ∙ ap (λ (p : Picture). numbers_where (moves p.shown) c.args.worker c.self.inside.ledger) c.last-last.ensures)
    (c.in-Ok-settle_each.ensures.left
    ∙ ap (λ (p : Picture). moved_each c.args.worker c.in-Ok.due.moved.items p.shown (closed_all c.args.worker c.in-Ok.due.closed.items c.self.inside.ledger)) c.last-last.ensures)
    (c.in-Ok-settle.ensures.world world here.pictures)
