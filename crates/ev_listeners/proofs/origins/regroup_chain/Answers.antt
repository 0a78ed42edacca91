use Rattle.std.proofs.Common.{◌∙◌, cond, Some, option_to_list, sym, ap}
use Rattle.std.specs.Option.{option_copied}
use Rattle.ev_types.specs.Origins.{origin_same}
use Rattle.ev_model.specs.Connections.{shares_origin}
use Rattle.ev_layers.specs.Layers.{found}
use Rattle.ev_listeners.specs.Groups.{group_of}
use Rattle.ev_listeners.specs.Origins.{began_at, group_after, one_began_at}
use Rattle.ev_listeners.proofs.Began.{alone}
use Rattle.ev_listeners.proofs.origins.regroup_chain.Goals as goal

pub returns-in_ok-regroup_origin : goal.returns-in_ok-regroup_origin
returns-in_ok-regroup_origin c origin =
    let after = group_after c.args.serves c.args.listener.now in
    let group = group_of (found origin_same c.args.origins.now origin) in
    let chain = c.in-Some.chain.now in
    c.in_ok-regroup_origin.ensures origin
    ∙ ap (λ o. cond (shares_origin (Some origin) o) (after group) group) c.origin.ensures
    ∙ ap (λ b. cond b (after group) group) (alone (began_at origin chain))
    ∙ ap (λ c. cond (one_began_at origin (option_to_list (option_copied c))) (after group) group) (sym c.in-Some.is)
