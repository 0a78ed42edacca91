use Rattle.std.proofs.Common.{◌≡◌, ◌∙◌, ℕ, ◌+◌, List, Ok, Err, not, nat_eq, nat_cmp, drop, remove, sym, ap, subst, rules, length, ◌≤◌}
use Rattle.std.specs.List.Sorted.{IsBinarySearchResult}
use Rattle.std.proofs.lemmas.Fn.{filter_same}
use Rattle.std.proofs.lemmas.List.{drop-drop}
use Rattle.ev_indexes.specs.Numbers.{Rise}
use Rattle.ev_indexes.specs.Watched.{numbers_without}
use Rattle.ev_indexes.proofs.NumberLemmas.{halves, remove-behind, within-behind, stored-less}
use Rattle.ev_indexes.proofs.numbers.Numbers.leave_out.Goals as goal

pub returns-then-not-self : goal.returns-then-not-self
returns-then-not-self c =
    (λ i. drop (c.cut.ensures.gone i) c.retain.new.self.items)
    ∙ filter_same _ (λ n. not (nat_eq c.args.number n)) _ (λ n b f r. search rules) _ _ c.retain.ensures.filtered
    ∙ ap (numbers_without c.args.number) (c.cut.ensures.left ∙ c.self.view_is)

first-out : (x gone : ℕ) (stored found : List ℕ) (place : ℕ) → Rise (drop gone stored) → found ≡ drop gone stored → IsBinarySearchResult (λ y. nat_cmp y x) found (Ok place) → place ≡ 0
    → drop (gone + 1) stored ≡ numbers_without x (drop gone stored)
first-out x gone stored found place rise is at first =
    sym (drop-drop 1 gone stored)
    ∙ ap (remove (drop gone stored)) (sym first)
    ∙ halves x (drop gone stored) (Ok place) rise (subst (λ (ns : List ℕ). IsBinarySearchResult (λ y. nat_cmp y x) ns (Ok place)) is at)

other-out : (x gone : ℕ) (stored found : List ℕ) (place : ℕ) → gone ≤ length stored → Rise (drop gone stored) → found ≡ drop gone stored → IsBinarySearchResult (λ y. nat_cmp y x) found (Ok place)
    → drop gone (remove stored (gone + place)) ≡ numbers_without x (drop gone stored)
other-out x gone stored found place within rise is at =
    remove-behind gone place stored within
    ∙ halves x (drop gone stored) (Ok place) rise (subst (λ (ns : List ℕ). IsBinarySearchResult (λ y. nat_cmp y x) ns (Ok place)) is at)

pub returns-in-Ok-eq0 : goal.returns-in-Ok-eq0
returns-in-Ok-eq0 c =
    c.leave_first.ensures.left
    ∙ first-out c.args.number c.self.inside.gone c.self.inside.numbers.items c.as_slice.result.now c.in-Ok-eq0.field-0 (c.self.invariant.rising c.if-not-self.false)
    (c.as_slice.ensures.elements ∙ sym c.self.view_is) c.in-Ok-eq0.ensures.position c.in-Ok-eq0.field-0-test
    ∙ ap (numbers_without c.args.number) c.self.view_is

pub invariant_of-self-in-Ok-eq0 : goal.invariant_of-self-in-Ok-eq0
invariant_of-self-in-Ok-eq0 c =
    stored-less c.args.number c.leave_first.new.gone c.self.inside.rise c.leave_first.new.numbers.items (drop c.self.inside.gone c.self.inside.numbers.items) c.leave_first.ensures.within
    (c.leave_first.ensures.left
    ∙ first-out c.args.number c.self.inside.gone c.self.inside.numbers.items c.as_slice.result.now c.in-Ok-eq0.field-0 (c.self.invariant.rising c.if-not-self.false)
    (c.as_slice.ensures.elements ∙ sym c.self.view_is) c.in-Ok-eq0.ensures.position c.in-Ok-eq0.field-0-test)
    c.self.invariant.rising

pub returns-in-Ok : goal.returns-in-Ok
returns-in-Ok c =
    ap (drop c.self.inside.gone) c.remove.ensures.items
    ∙ other-out c.args.number c.self.inside.gone c.self.inside.numbers.items c.as_slice.result.now c.in-Ok.place c.self.invariant.within
    (c.self.invariant.rising c.if-not-self.false) (c.as_slice.ensures.elements ∙ sym c.self.view_is) c.in-Ok.ensures.position
    ∙ ap (numbers_without c.args.number) c.self.view_is

pub invariant_of-self-in-Ok : goal.invariant_of-self-in-Ok
invariant_of-self-in-Ok c =
    let gone = c.self.inside.gone in
    let stored = c.self.inside.numbers.items in
    stored-less c.args.number gone c.self.inside.rise c.remove.new.self.items (drop gone stored)
    (subst (λ (ns : List ℕ). gone ≤ length ns) (sym c.remove.ensures.items) (within-behind gone c.in-Ok.place stored c.self.invariant.within))
    (ap (drop gone) c.remove.ensures.items
    ∙ other-out c.args.number gone stored c.as_slice.result.now c.in-Ok.place c.self.invariant.within
    (c.self.invariant.rising c.if-not-self.false) (c.as_slice.ensures.elements ∙ sym c.self.view_is) c.in-Ok.ensures.position)
    c.self.invariant.rising

pub returns-in-Err : goal.returns-in-Err
returns-in-Err c =
    sym c.self.view_is
    ∙ halves c.args.number (drop c.self.inside.gone c.self.inside.numbers.items) (Err c.in-Err.field-0) (c.self.invariant.rising c.if-not-self.false)
    (subst (λ (ns : List ℕ). IsBinarySearchResult (λ y. nat_cmp y c.args.number) ns (Err c.in-Err.field-0)) (c.as_slice.ensures.elements ∙ sym c.self.view_is) c.in-Err.ensures.position)
    ∙ ap (numbers_without c.args.number) c.self.view_is
