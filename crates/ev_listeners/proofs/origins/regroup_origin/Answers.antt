use Rattle.std.proofs.Common.{◌∙◌, cond, Some, sym, ap}
use Rattle.ev_types.specs.Origins.{origin_same}
use Rattle.ev_model.specs.Connections.{shares_origin}
use Rattle.ev_layers.specs.Layers.{found}
use Rattle.ev_listeners.specs.Groups.{group_of}
use Rattle.ev_listeners.specs.Origins.{group_after}
use Rattle.ev_listeners.proofs.Began.{either_way, same_origin}
use Rattle.ev_listeners.proofs.origins.regroup_origin.Goals as goal

pub returns : goal.returns
returns c origin =
    let after = group_after c.args.serves c.args.listener.now in
    let at = λ (o : _). group_of (found origin_same c.args.origins.now o) in
    let here = c.in-Some.origin in
    c.in_ok-set_origin.ensures origin
    ∙ (λ i. cond (origin_same here origin) ((c.in_ok-group.ensures ∙ ap (λ o. after (group_of o)) c.get.ensures) i) (at origin))
    ∙ same_origin (λ o. after (at o)) here origin (at origin)
    ∙ ap (λ b. cond b (after (at origin)) (at origin)) (either_way here origin)
    ∙ ap (λ o. cond (shares_origin (Some origin) o) (after (at origin)) (at origin)) (sym c.in-Some.is)
