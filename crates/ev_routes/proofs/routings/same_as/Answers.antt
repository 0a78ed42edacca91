use Rattle.std.proofs.Common.{◌≡◌, ◌∙◌, sym}
use Rattle.ev_model.specs.Picture.{routing_decides}
use Rattle.ev_routes.proofs.routings.same_as.Goals as goal

pub returns-then-eq : goal.returns-then-eq
returns-then-eq c =
    let same : c.routing.result.now ≡ c.args.routing.now = (routing_decides _ _).0 (sym c.eq.ensures ∙ c.if-eq.true) in
    sym c.get.ensures.value ∙ sym c.routing.ensures ∙ same
