use Rattle.std.proofs.Common.{◌∙◌, ◌++◌, ◌∷◌, [], position, insert, sym}
use Rattle.ev_model.specs.Versions.{is_before}
use Rattle.ev_model.specs.declared.pictures.ServedListener.{ServedListener}
use Rattle.ev_listeners.proofs.Grouped.{placed, unplaced}
use Rattle.ev_listeners.proofs.groups.insert_in_order.Goals as goal

pub returns-in_default : goal.returns-in_default
returns-in_default c =
    c.in_ok-push.ensures.ok
    ∙ (λ i. c.args.group ++ c.in_ok-share.ensures.value i ∷ [])
    ∙ unplaced (λ (one other : ServedListener). is_before one.name other.name) c.args.listener.now c.args.group
    ((λ i. position (λ (l : ServedListener). is_before (sym c.get.ensures.value i).name l.name) (sym c.as_slice.ensures.elements i)) ∙ sym c.in_default.ensures)

pub returns : goal.returns
returns c =
    c.in_ok-insert.ensures.ok
    ∙ (λ i. insert c.args.group c.in-Some.place (c.in_ok-share-2.ensures.value i))
    ∙ placed (λ (one other : ServedListener). is_before one.name other.name) c.args.listener.now c.args.group c.in-Some.place
    ((λ i. position (λ (l : ServedListener). is_before (sym c.get.ensures.value i).name l.name) (sym c.as_slice.ensures.elements i)) ∙ sym c.in-Some.ensures)
