use Rattle.std.proofs.Common.{sym, ap, ◌∙◌, subst}
use Rattle.ev_worker.specs.Batches.{closed_answer, closed_as}
use Rattle.ev_retirement.specs.Holders.{HoldersParts, HoldsFor}
use Rattle.ev_retirement.proofs.AskLemmas.{go_kept}
use Rattle.ev_retirement.proofs.LineLemmas.{close_answers, close_stands}
use Rattle.ev_retirement.proofs.holders.Holders.close.Goals as goal

pub returns-clause-answer : goal.returns-clause-answer
returns-clause-answer c world stands =
    let here : HoldsFor _ world = subst (λ (v : HoldersParts). HoldsFor v world) (sym c.self.view_is) stands in
    c.close_answer.ensures ∙ ap (λ t. closed_answer (closed_as t)) (c.in-Ok.ensures.answer world.opened here.opened) ∙ close_answers c.args.conn c.args.worker world.opened

pub returns-clause-world : goal.returns-clause-world
returns-clause-world c world stands =
    let here : HoldsFor _ world = subst (λ (v : HoldersParts). HoldsFor v world) (sym c.self.view_is) stands in
    close_stands c.args.conn c.args.worker _ c.close_one.new.ledger world here (c.in-Ok.ensures.world world.opened here.opened)

pub invariant_of-self : goal.invariant_of-self
invariant_of-self c = record {
  asked = go_kept c.self.inside.asking c.close_one.new.asking _ c.close_one.new.ledger c.close_one.ensures.goes c.self.invariant.asked;
  found = c.close_one.ensures.found c.self.inside.pictures.last.shown c.self.invariant.found;
}

pub invariant_of-self-2 : goal.invariant_of-self-2
invariant_of-self-2 c = record {
  asked = go_kept c.self.inside.asking c.close_one.new.asking _ c.close_one.new.ledger c.close_one.ensures.goes c.self.invariant.asked;
  found = c.close_one.ensures.found c.self.inside.pictures.last.shown c.self.invariant.found;
}
