use Rattle.std.proofs.Common.{◌≡◌, cond, drop}
use Rattle.ev_types.specs.Origins.{origin_same}
use Rattle.ev_types.specs.declared.origins.Origin.{Origin}
use Rattle.ev_layers.specs.Layers.{found}
use Rattle.ev_listeners.specs.Groups.{group_of}
use Rattle.ev_listeners.specs.Origins.{group_after, one_began_at}
use Rattle.ev_listeners.proofs.origins.regroup_chains.Given as goal

abbrev pub invariant-loop-chain : goal.invariant-loop-chain
invariant-loop-chain l =
    (origin : Origin) → cond (one_began_at origin (drop l.chain-index l.chains))
    (group_after l.serves l.listener (group_of (found origin_same l.origins origin))) (group_of (found origin_same l.origins origin))
    ≡ cond (one_began_at origin l.chains)
    (group_after l.serves l.listener (group_of (found origin_same l.fn.origins origin))) (group_of (found origin_same l.fn.origins origin))
