use Rattle.std.proofs.Common.{◌∙◌, ◌+◌, drop, sym, ap}
use Rattle.std.proofs.lemmas.List.{drop_all}
use Rattle.ev_snapshot.specs.Changes.{put_clusters}
use Rattle.ev_listeners.proofs.Walks.{drop_at}
use Rattle.ev_snapshot.proofs.parts.put_clusters.Goals as goal

pub loop-change-preserved : goal.loop-change-preserved
loop-change-preserved c =
    ap (put_clusters (drop (c.loop-change.change-index + 1) c.args.changes.now)) c.in_ok-all.ensures
    ∙ ap (λ changes. put_clusters changes c.loop-change.all)
    (sym (drop_at c.args.changes.now c.loop-change.change-index c.change-item.result c.loop-change-test.true c.change-item.is))
    ∙ c.loop-change.invariant

pub returns : goal.returns
returns c =
    ap (λ changes. put_clusters changes c.loop-change.all) (sym (drop_all c.loop-change.change-index c.args.changes.now c.loop-change-test.false))
    ∙ c.loop-change.invariant
