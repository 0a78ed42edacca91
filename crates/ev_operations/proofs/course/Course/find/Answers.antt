use Rattle.std.proofs.Common.{◌≡◌, ◌<◌, ◌≤◌, List, length, get_or, ap, sym, ◌∙◌, subst}
use Rattle.ev_operations.specs.declared.due.Due.{Due}
use Rattle.ev_operations.specs.declared.due.Due.TheVariants.{Line}
use Rattle.ev_operations.proofs.CourseLemmas.{found_here, none_at_end, none_from_here, one_passed}
use Rattle.ev_operations.proofs.course.Course.find.Goals as goal

pub returns-then-tells-clause-found : goal.returns-then-tells-clause-found
returns-then-tells-clause-found c =
    let is : c.as_slice-dues.result.now ≡ c.args.self.now.dues = c.as_slice-dues.ensures.elements in
    let due : Due = get_or c.as_slice-dues.result.now c.loop-place.place (Line 0) in
    λ os are.
    found_here c.args.script.now c.args.row.now c.args.self.now os c.loop-place.place due (Line 0) (c.loop-place.invariant os are)
    (subst (λ (ds : List Due). c.loop-place.place < length ds) is c.loop-place-test.true)
    (ap (λ (ds : List Due). get_or ds c.loop-place.place (Line 0)) is) (sym c.tells.ensures ∙ c.if-tells.true)

pub returns-then-is_left-clause-none : goal.returns-then-is_left-clause-none
returns-then-is_left-clause-none c =
    let is : c.as_slice-dues.result.now ≡ c.args.self.now.dues = c.as_slice-dues.ensures.elements in
    let due : Due = get_or c.as_slice-dues.result.now c.loop-place.place (Line 0) in
    λ none os are.
    none_from_here c.args.script.now c.args.row.now c.args.self.now os c.loop-place.place due (Line 0) (c.loop-place.invariant os are)
    (subst (λ (ds : List Due). c.loop-place.place < length ds) is c.loop-place-test.true)
    (ap (λ (ds : List Due). get_or ds c.loop-place.place (Line 0)) is) (sym c.tells.ensures ∙ c.if-tells.false) (sym c.is_left.ensures ∙ c.if-is_left.true)

pub loop-place-preserved : goal.loop-place-preserved
loop-place-preserved c =
    let is : c.as_slice-dues.result.now ≡ c.args.self.now.dues = c.as_slice-dues.ensures.elements in
    let due : Due = get_or c.as_slice-dues.result.now c.loop-place.place (Line 0) in
    λ os are.
    one_passed c.args.script.now c.args.row.now c.args.self.now os c.loop-place.place due (Line 0) (c.loop-place.invariant os are)
    (subst (λ (ds : List Due). c.loop-place.place < length ds) is c.loop-place-test.true)
    (ap (λ (ds : List Due). get_or ds c.loop-place.place (Line 0)) is) (sym c.tells.ensures ∙ c.if-tells.false) (sym c.is_left.ensures ∙ c.if-is_left.false)

pub returns-clause-none : goal.returns-clause-none
returns-clause-none c =
    let is : c.as_slice-dues.result.now ≡ c.args.self.now.dues = c.as_slice-dues.ensures.elements in
    λ none os are.
    none_at_end c.args.script.now c.args.row.now c.args.self.now os c.loop-place.place (c.loop-place.invariant os are)
    (subst (λ (ds : List Due). length ds ≤ c.loop-place.place) is c.loop-place-test.false)
