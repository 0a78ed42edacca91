use Rattle.std.proofs.Common.{◌++◌, ◌∙◌, ap}
use Rattle.std.specs.List.{flat_map}
use Rattle.ev_snapshot.specs.Touched.{served_begun}
use Rattle.ev_snapshot.specs.declared.changes.ListenerChange.{ListenerChange}
use Rattle.ev_snapshot.proofs.Gone.{are_begun}
use Rattle.ev_snapshot.proofs.snapshot.Snapshot.begun.Goals as goal

pub returns : goal.returns
returns c =
    are_begun c.args.changes.now c.args.before.now.shown c.args.self.now.shown c.push_all_begun.new.numbers.items c.requires.after
    (c.in_ok-push_all_begun.ensures
    ∙ ap (λ ns. ns ++ flat_map (λ (x : ListenerChange). served_begun c.args.before.now.shown x.served) c.as_slice.result.now) c.new-begun.ensures.items
    ∙ ap (flat_map (λ (x : ListenerChange). served_begun c.args.before.now.shown x.served)) c.as_slice.ensures.elements)
