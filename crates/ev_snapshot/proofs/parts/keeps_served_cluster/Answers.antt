use Rattle.std.proofs.Common.{◌≡◌, ◌∙◌, ◌&&◌, true, sym, ap}
use Rattle.ev_model.specs.Picture.{served_cluster_same}
use Rattle.ev_model.specs.declared.pictures.ServedCluster.{ServedCluster}
use Rattle.ev_layers.specs.Kept.{keeps_name, keeps_number, keeps_served}
use Rattle.ev_snapshot.proofs.parts.keeps_served_cluster.Goals as goal

pub returns-then-keeps_number : goal.returns-then-keeps_number
returns-then-keeps_number c =
    let one = c.in-Some.cluster in
    let is : ◌≡◌ {A = ServedCluster} (record { number = c.cluster.inside.number; name = c.cluster.inside.name; hosts = c.cluster.inside.hosts; elsewhere = c.cluster.inside.elsewhere; secrets = c.cluster.inside.secrets }) one = c.cluster.view_is in
    let kept : keeps_number (λ (c : ServedCluster). c.number) (λ (c : ServedCluster). c.name) served_cluster_same c.args.before.now c.args.after.now one.number ≡ true =
    ap (λ (k : ServedCluster). keeps_number (λ (c : ServedCluster). c.number) (λ (c : ServedCluster). c.name) served_cluster_same c.args.before.now c.args.after.now k.number) (sym is)
    ∙ sym c.keeps_number.ensures ∙ c.if-keeps_number.true in
    c.keeps_name.ensures
    ∙ (λ i. sym kept i && keeps_name (λ (c : ServedCluster). c.name) served_cluster_same c.args.before.now c.args.after.now ((c.as_str.ensures.bytes ∙ ap (λ (k : ServedCluster). k.name) is) i))
    ∙ ap (keeps_served (λ (c : ServedCluster). c.number) (λ (c : ServedCluster). c.name) served_cluster_same c.args.before.now c.args.after.now) (sym c.in-Some.is)
