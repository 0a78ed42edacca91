use Rattle.std.proofs.Common.{◌≡◌, List, ◌++◌, take, map}
use Rattle.serde_json.specs.View.{view, members_view}
use Rattle.serde_json.specs.declared.value.Value.{Value}
use Rattle.serde_json.proofs.Views.{Entry}
use Rattle.ev_tree.specs.Floats.{whole, whole_members}
use Rattle.ev_tree.proofs.floats.+whole_copy.Given as goal

abbrev pub invariant-whole_items-loop-item : goal.invariant-whole_items-loop-item
invariant-whole_items-loop-item l = map view l.copies.items ≡ map (λ (v : Value). whole (view v)) (take l.item-index l.item-items)

abbrev pub invariant-whole_members-loop-key : goal.invariant-whole_members-loop-key
invariant-whole_members-loop-key l =
    (done : List Entry) × (l.members.entries ≡ done ++ l.key-iterator) × (members_view l.copies.entries ≡ whole_members (members_view done))
