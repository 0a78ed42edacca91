use Rattle.std.proofs.Common.{◌∙◌, ◌+◌, cond, drop, Some, sym, ap}
use Rattle.std.proofs.lemmas.List.{drop_all}
use Rattle.ev_types.specs.Origins.{origin_same}
use Rattle.ev_model.specs.Connections.{shares_origin}
use Rattle.ev_layers.specs.Layers.{found}
use Rattle.ev_listeners.specs.Groups.{group_of}
use Rattle.ev_listeners.specs.Origins.{began_at, group_after, one_began_at}
use Rattle.ev_listeners.proofs.Began.{after_twice, either}
use Rattle.ev_listeners.proofs.Walks.{drop_at}
use Rattle.ev_listeners.proofs.origins.regroup_chains.Goals as goal

pub loop-chain-preserved : goal.loop-chain-preserved
loop-chain-preserved c origin =
    let after = group_after c.args.serves c.args.listener.now in
    let group = group_of (found origin_same c.loop-chain.origins origin) in
    let chains = c.args.chains.now in
    let index = c.loop-chain.chain-index in
    let chain = c.chain-item.result in
    let left = one_began_at origin (drop (index + 1) chains) in
    ap (λ g. cond left (after g) g) (c.in_ok-regroup_origin.ensures origin ∙ ap (λ o. cond (shares_origin (Some origin) o) (after group) group) c.origin.ensures)
    ∙ either after (began_at origin chain) left group (after_twice c.args.serves c.args.listener.now group)
    ∙ ap (λ cs. cond (one_began_at origin cs) (after group) group) (sym (drop_at chains index chain c.loop-chain-test.true c.chain-item.is))
    ∙ c.loop-chain.invariant origin

pub returns : goal.returns
returns c origin =
    let after = group_after c.args.serves c.args.listener.now in
    let group = group_of (found origin_same c.loop-chain.origins origin) in
    ap (λ cs. cond (one_began_at origin cs) (after group) group) (sym (drop_all c.loop-chain.chain-index c.args.chains.now c.loop-chain-test.false))
    ∙ c.loop-chain.invariant origin
