use Rattle.std.proofs.Common.{◌∙◌, ap}
use Rattle.ev_model.specs.declared.pictures.Picture.{Picture}
use Rattle.ev_snapshot.specs.Changes.{picture_after}
use Rattle.ev_snapshot.proofs.Shown.{next_none, next_some, order_stays}
use Rattle.ev_snapshot.proofs.snapshot.Snapshot.after.Goals as goal

pub returns-then-keep_all-clause-picture : goal.returns-then-keep_all-clause-picture
returns-then-keep_all-clause-picture c =
    next_none c.args.changes.now (record { version = c.self.inside.version; shown = record { clusters = c.self.inside.parts.clusters; listeners = c.self.inside.parts.listeners } })
    c.in_ok-parts.parts.clusters c.in_ok-parts.parts.listeners c.keep_all.result c.self.invariant
    c.in_ok-parts.ensures.clusters c.in_ok-parts.ensures.listeners c.keep_all.ensures c.if-keep_all.true
    ∙ ap (picture_after c.args.changes.now) c.self.view_is

pub with_parts-requires : goal.with_parts-requires
with_parts-requires c =
    order_stays c.args.changes.now (record { clusters = c.self.inside.parts.clusters; listeners = c.self.inside.parts.listeners })
    c.in_ok-parts.parts.clusters c.in_ok-parts.parts.listeners c.self.invariant
    c.in_ok-parts.ensures.clusters c.in_ok-parts.ensures.listeners

pub returns-clause-picture : goal.returns-clause-picture
returns-clause-picture c =
    let next = c.in_ok-next.ensures in
    next_some c.args.changes.now (record { version = c.self.inside.version; shown = record { clusters = c.self.inside.parts.clusters; listeners = c.self.inside.parts.listeners } })
    c.in_ok-parts.parts.clusters c.in_ok-parts.parts.listeners c.keep_all.result c.in_ok-next.next c.self.invariant
    c.in_ok-parts.ensures.clusters c.in_ok-parts.ensures.listeners
    c.keep_all.ensures c.if-keep_all.false (ap (λ (p : Picture). p.version) next ∙ c.in_ok-version.ensures)
    (ap (λ (p : Picture). p.shown.clusters) next) (ap (λ (p : Picture). p.shown.listeners) next)
    ∙ ap (picture_after c.args.changes.now) c.self.view_is
