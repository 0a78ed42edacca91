use Rattle.std.proofs.Common.{◌≡◌, List, [], ◌∷◌, ◌++◌, map, take, string_bytes, sym, ap, ◌∙◌, subst, append_assoc, arith}
use Rattle.std.proofs.lemmas.List.{take_all}
use Rattle.std.specs.List.Sorted.{IsStrictlySortedBy}
use Rattle.std.specs.Map.{keys_of}
use Rattle.std.specs.String.{string_cmp}
use Rattle.serde_json.specs.View.{view, items_of, items_view, members_view}
use Rattle.serde_json.specs.declared.value.Value.{Value}
use Rattle.serde_json.proofs.Views.{Entry, members_view-insert_entry, put_last}
use Rattle.ev_tree.specs.Floats.{whole, whole_items, whole_members}
use Rattle.ev_tree.proofs.FloatLemmas.{items_copied, put_copied}
use Rattle.ev_tree.proofs.floats.+whole_copy.Goals as goal

pub whole_items-returns : goal.whole_items-returns
whole_items-returns t c =
    let items : List Value = c.deref-item-items.result.now in
    let all : take c.loop-item.item-index items ≡ items = take_all c.loop-item.item-index items (omega arith) in
    ap items_of (c.loop-item.invariant ∙ ap (map (λ (v : Value). whole (view v))) all)
    ∙ items_copied items
    ∙ ap (λ (vs : List Value). whole_items (items_view vs)) c.deref-item-items.ensures.value

pub whole_members-loop-key-preserved : goal.whole_members-loop-key-preserved
whole_members-loop-key-preserved t c =
    let l = c.loop-key in
    let done = l.invariant.0 in
    let e : Entry = (c.in-Some.key.now, c.in-Some.member.now) in
    let left = c.next.new.self in
    let all : c.args.members.now.entries ≡ done ++ e ∷ left = l.invariant.1 ∙ ap (λ es. done ++ es) c.in-Some.ensures.steps in
    let last = put_last done e left (subst (λ es. IsStrictlySortedBy string_cmp (keys_of es)) all c.iter-key-items.ensures.ordered) in
    let named : string_bytes c.in_ok-name.name ≡ string_bytes e.0 = c.in_ok-name.ensures.cases in (
      done ++ e ∷ [],
      all ∙ sym (append_assoc done (e ∷ []) left),
      ap members_view c.in_ok-insert.ensures.entries
          ∙ members_view-insert_entry l.copies.entries c.in_ok-name.name c.in_ok-whole_copy.field-0
          ∙ rw (named, c.in_ok-whole_copy.ensures, l.invariant.2, ← put_copied) (ap whole_members last),
    )
