use Rattle.std.proofs.Common.{◌<◌, ◌≡◌, ℕ, None, cond, nat_eq, List, length, filter, ap, sym, ◌∙◌, subst}
use Rattle.std.specs.Arc.{arc_value}
use Rattle.std.specs.Map.{lookup}
use Rattle.std.specs.Option.{option_map}
use Rattle.ev_model.specs.Picture.{has_number}
use Rattle.ev_model.specs.Connections.{is_member, settle}
use Rattle.ev_model.specs.declared.pictures.Shown.{Shown}
use Rattle.ev_worker.specs.Batches.{BatchParts}
use Rattle.ev_worker.specs.Members.{next_of, stored_members}
use Rattle.ev_worker.specs.Workers.{HasWorker, IsToldBy, SameOpen, WorkerParts, left_after, without_numbers}
use Rattle.ev_worker.proofs.OpenLemmas.{numbers_leave}
use Rattle.ev_worker.proofs.SettleLemmas.{adopted, moved_same, numbers_move}
use Rattle.ev_worker.proofs.workers.Worker.adopt.Goals as goal

-- the connections that are stored then
left : (c : goal.After-drop-settled-2)
    → SameOpen c.self.inside.batch.worker (stored_members c.self.inside.batch.worker c.move_all.new.members.entries)
    (left_after c.args.settled.closed c.args.settled.moved (arc_value c.args.settled.snapshot).shown (stored_members c.self.inside.batch.worker c.self.inside.members.entries))
left c n =
    let worker = c.self.inside.batch.worker in
    let es = c.self.inside.members.entries in
    let taken = c.close_all.new.members.entries in
    let shown : Shown = (arc_value c.args.settled.snapshot).shown in
    numbers_move worker c.args.settled.moved shown taken c.move_all.new.members.entries c.close_all.ensures.apart c.move_all.ensures.apart
    (λ k. c.move_all.ensures.moved k
    ∙ (λ i. cond (has_number k (c.as_slice-2.ensures.elements i)) (option_map (next_of (c.deref.ensures i).shown) (lookup (nat_eq k) taken)) (lookup (nat_eq k) taken))) n
    ∙ moved_same worker c.args.settled.moved shown (stored_members worker taken) (without_numbers c.args.settled.closed (stored_members worker es))
    (numbers_leave worker c.args.settled.closed es taken c.self.invariant.apart c.close_all.ensures.apart
    (λ k. c.close_all.ensures.left k ∙ ap (λ (numbers : List ℕ). cond (has_number k numbers) None (lookup (nat_eq k) es)) c.as_slice.ensures.elements)) n

pub returns-clause-opened : goal.returns-clause-opened
returns-clause-opened c n =
    let worker = c.self.inside.batch.worker in
    ap (λ (v : WorkerParts). filter (is_member v.number n) (stored_members c.clear.new.self.worker c.move_all.new.members.entries)) (sym c.self.view_is)
    ∙ ap (λ (b : BatchParts). filter (is_member worker n) (stored_members b.worker c.move_all.new.members.entries)) c.clear.ensures
    ∙ left c n
    ∙ ap (λ (v : WorkerParts). filter (is_member v.number n) (left_after c.args.settled.closed c.args.settled.moved (arc_value c.args.settled.snapshot).shown v.opened)) c.self.view_is

pub returns-clause-world : goal.returns-clause-world
returns-clause-world c world stands below told =
    let worker = c.self.inside.batch.worker in
    let es = c.self.inside.members.entries in
    let picture = arc_value c.args.settled.snapshot in
    let closed = c.args.settled.closed in
    let moved = c.args.settled.moved in
    let after = c.move_all.new.members.entries in
    let Stood : WorkerParts → Type 0 = λ (v : WorkerParts). HasWorker v.number v.picture v.opened world in
    let Below : WorkerParts → Type 0 = λ (v : WorkerParts). v.number < length world.held in
    let Told : WorkerParts → Type 0 = λ (v : WorkerParts). IsToldBy v.number closed moved picture world in
    let Settled : WorkerParts → Type 0 = λ (v : WorkerParts). HasWorker worker picture (stored_members worker after) (settle v.number world).0 in
    let Stands : BatchParts → Type 0 = λ (b : BatchParts). HasWorker b.worker picture (stored_members b.worker after) (settle c.args.self.now.number world).0 in
    subst Stands (sym c.clear.ensures)
    (subst Settled c.self.view_is
    (adopted worker picture _ es closed moved (stored_members worker after) world c.self.invariant.apart
    (subst Stood (sym c.self.view_is) stands) (subst Below (sym c.self.view_is) below) (subst Told (sym c.self.view_is) told)
    (left c)))
