use Rattle.std.proofs.Common.{sym, ap, ◌∙◌, subst}
use Rattle.ev_model.specs.Dead.{picture_held}
use Rattle.ev_model.specs.declared.pictures.Picture.{Picture}
use Rattle.ev_worker.specs.Batches.{outcome_answer}
use Rattle.ev_worker.specs.declared.lines.Outcome.{Outcome}
use Rattle.ev_ledger.specs.Members.{in_order}
use Rattle.ev_retirement.specs.Holders.{HoldersParts, HoldsFor}
use Rattle.ev_retirement.specs.Lines.{accept_leaves}
use Rattle.ev_retirement.proofs.LineLemmas.{accept_answers, accept_stands}
use Rattle.ev_retirement.proofs.holders.Holders.accept.Goals as goal

pub returns-clause-answer : goal.returns-clause-answer
returns-clause-answer c world stands =
    let here : HoldsFor _ world = subst (λ (h : HoldersParts). HoldsFor h world) (sym c.self.view_is) stands in
    c.in-Ok.ensures
    ∙ ap (λ (p : Picture). outcome_answer p c.answer_accept-outcome.result) (c.held.ensures.world world here.pictures)
    ∙ ap (outcome_answer (picture_held world c.args.worker)) (c.answer_accept-outcome.ensures world here.pictures here.opened)
    ∙ accept_answers (picture_held world c.args.worker) c.args.ask.now c.args.worker world.opened

pub returns-clause-world : goal.returns-clause-world
returns-clause-world c world stands =
    let here : HoldsFor _ world = subst (λ (h : HoldersParts). HoldsFor h world) (sym c.self.view_is) stands in
    accept_stands c.args.ask.now c.args.worker _ c.take_accept.new.ledger world here
    (c.in-Ok-take_accept.ensures.opened world.opened here.opened
    ∙ ap (λ (o : Outcome). in_order (accept_leaves c.args.worker c.args.ask.now.conn o world.opened)) (c.answer_accept-outcome.ensures world here.pictures here.opened))
