use Rattle.std.proofs.Common.{◌≡◌, ◌∙◌, ◌||◌, ap, map, sym, string_bytes, Bool, true, false, not, refl}
use Rattle.std.specs.List.{list_any}
use Rattle.std.specs.BTreeSet.{contains_text}
use Rattle.std.specs.Cmp.Lexicographic.{slice_cmp}
use Rattle.std.specs.Ordering.{nat_cmp}
use Rattle.std.specs.BTreeMap.{is_at}
use Rattle.std.proofs.lemmas.Map.Text.{btree_set_updates_text}
use Rattle.ev_route_json.specs.Domains.{has_repeat}
use Rattle.ev_route_json.proofs.Repeats.{seen_more, nothing_seen}
use Rattle.ev_route_json.proofs.domains.has_repeat.Goals as goal

not_true : (a b : Bool) → a ≡ not b → a ≡ true → b ≡ false
not_true a true p q = sym q ∙ p
not_true a false p q = refl

pub loop-text-init : goal.loop-text-init
loop-text-init c =
    nothing_seen (contains_text c.new-seen.result)
    (λ t. ap (list_any (is_at (λ k. slice_cmp nat_cmp t (string_bytes k)))) c.new-seen.ensures.empty)
    (ap (map string_bytes) c.into_iter-text-iterator.ensures.into_iter_gives.0)

pub loop-text-preserved : goal.loop-text-preserved
loop-text-preserved c =
    let key = c.in-Some.text in
    let more = btree_set_updates_text (string_bytes key) c.loop-text.seen c.insert.new.self true c.in_ok-insert.ensures.updates in
    let new = not_true c.in_ok-insert.field-0 (contains_text c.loop-text.seen (string_bytes key)) c.in_ok-insert.ensures.added c.if-not-branch.false in
    seen_more (contains_text c.loop-text.seen) (contains_text c.insert.new.self) (string_bytes key) _ more new
    ∙ sym (ap (λ ts. list_any (contains_text c.loop-text.seen) (map string_bytes ts) || has_repeat (map string_bytes ts)) c.in-Some.ensures.steps.0)
    ∙ c.loop-text.invariant
