use Rattle.std.proofs.Common.{◌∙◌, ◌+◌, map, drop, sym, ap}
use Rattle.std.proofs.lemmas.List.{drop_all}
use Rattle.ev_model.specs.declared.pictures.ServedListener.{ServedListener}
use Rattle.ev_snapshot.specs.Changes.{without}
use Rattle.ev_snapshot.specs.declared.changes.ListenerChange.{ListenerChange}
use Rattle.ev_listeners.proofs.Walks.{drop_at}
use Rattle.ev_snapshot.proofs.Touched.{without_more, without_none}
use Rattle.ev_snapshot.proofs.parts.without_listeners.Goals as goal

pub loop-change-preserved : goal.loop-change-preserved
loop-change-preserved c =
    let left = drop (c.loop-change.change-index + 1) c.args.changes.now in
    ap (without (λ (x : ServedListener). x.number) (map (λ (change : ListenerChange). change.number) left)) c.in_ok-left.ensures
    ∙ without_more (λ (x : ServedListener). x.number) (λ (x : ServedListener). x.name) (λ (change : ListenerChange). change.number) (λ (change : ListenerChange). change.served) c.change-item.result left c.loop-change.left
    ∙ ap (λ changes. without (λ (x : ServedListener). x.number) (map (λ (change : ListenerChange). change.number) changes) c.loop-change.left)
    (sym (drop_at c.args.changes.now c.loop-change.change-index c.change-item.result c.loop-change-test.true c.change-item.is))
    ∙ c.loop-change.invariant

pub returns : goal.returns
returns c =
    sym (without_none (λ (x : ServedListener). x.number) (λ (x : ServedListener). x.name) (λ (change : ListenerChange). change.number) (λ (change : ListenerChange). change.served) c.loop-change.left)
    ∙ ap (λ changes. without (λ (x : ServedListener). x.number) (map (λ (change : ListenerChange). change.number) changes) c.loop-change.left) (sym (drop_all c.loop-change.change-index c.args.changes.now c.loop-change-test.false))
    ∙ c.loop-change.invariant
