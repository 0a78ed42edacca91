use Rattle.std.proofs.Common.{◌∙◌, None, ap, sym}
use Rattle.serde_json.specs.View.{view}
use Rattle.ev_cluster_json.specs.Sockets.{cluster_secrets}
use Rattle.ev_cluster_json.proofs.sockets.inspect_secrets.Goals as goal

pub returns-in-Own : goal.returns-in-Own
unfolding cluster_secrets
returns-in-Own c =
    (λ i. record { own = c.new.ensures.empty i; by_match = None; broken = c.none.ensures i })
    ∙ ap (λ profile. cluster_secrets profile (view c.args.cluster.now)) (sym c.in-Own.is)
