use Rattle.std.proofs.Common.{sym, ap, ◌∙◌, subst}
use Rattle.std.proofs.lemmas.Result.{IfOk-weaker}
use Rattle.ev_model.specs.declared.pictures.Picture.{Picture}
use Rattle.ev_ledger.specs.Members.{in_order}
use Rattle.ev_retirement.specs.Closing.{AreFound}
use Rattle.ev_retirement.specs.Holders.{HoldersParts, HoldsFor}
use Rattle.ev_retirement.specs.Lines.{lines_leave}
use Rattle.ev_retirement.proofs.AskLemmas.{go_kept}
use Rattle.ev_retirement.proofs.LineLemmas.{lines_stand}
use Rattle.ev_retirement.proofs.holders.Holders.take_batch.Goals as goal

pub returns : goal.returns
returns c = record {
  world =
      IfOk-weaker c.take_lines.result _ _
      (λ v taken format world picture stands answered.
      let here : HoldsFor _ world = subst (λ (h : HoldersParts). HoldsFor h world) (sym c.self.view_is) stands in
      lines_stand format c.args.batch.now.worker picture c.args.batch.now.lines _ c.take_lines.new.ledger world here answered
      (taken world.opened here.opened
      ∙ ap (λ w. in_order (lines_leave w c.lines.result.now world.opened)) c.worker.ensures
      ∙ ap (λ ls. in_order (lines_leave c.args.batch.now.worker ls world.opened)) c.lines.ensures.lines)) c.take_lines.ensures.opened;
}

pub invariant_of-self : goal.invariant_of-self
invariant_of-self c = record {
  asked = go_kept c.self.inside.asking c.take_lines.new.asking _ c.take_lines.new.ledger c.take_lines.ensures.goes c.self.invariant.asked;
  found = subst (λ (p : Picture). AreFound c.take_lines.new.closing c.self.inside.drain p.shown c.take_lines.new.ledger) c.last-last.ensures
      (c.take_lines.ensures.found
      (subst (λ (p : Picture). AreFound c.self.inside.closing c.self.inside.drain p.shown c.self.inside.ledger) (sym c.last-last.ensures) c.self.invariant.found));
}
