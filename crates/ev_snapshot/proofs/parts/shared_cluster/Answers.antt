use Rattle.std.proofs.Common.{◌≡◌, IfOk, sym, subst, ◌∙◌}
use Rattle.ev_model.specs.Picture.{served_cluster_decides}
use Rattle.ev_model.specs.declared.pictures.ServedCluster.{ServedCluster}
use Rattle.ev_snapshot.proofs.parts.shared_cluster.Goals as goal

pub returns-then-eq : goal.returns-then-eq
returns-then-eq c =
    let same : c.get.result.now ≡ c.args.cluster.now = (served_cluster_decides _ _).0 (sym c.eq.ensures ∙ c.if-eq.true) in
    let Is : ServedCluster → Type 0 = λ v. IfOk c.share.result (λ shared. shared ≡ v) in
    subst Is (sym c.get.ensures.value ∙ same) c.share.ensures.value
