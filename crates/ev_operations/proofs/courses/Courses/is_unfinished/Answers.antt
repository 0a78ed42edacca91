use Rattle.std.proofs.Common.{◌≡◌, ◌<◌, ℕ, List, Some, false, length, drop, slice_get, ap, sym, ◌∙◌, subst, arith}
use borrow.Author.Count.{below_more}
use Rattle.std.specs.List.{list_any}
use Rattle.std.proofs.lemmas.Option.{slice_get-get_or}
use Rattle.ev_types.specs.Scripts.{IsScript}
use Rattle.ev_operations.specs.Courses.{is_left}
use Rattle.ev_operations.specs.declared.course.Course.{Course}
use Rattle.ev_operations.proofs.SeatLemmas.{all_finished, below_there, seat_unfinished}
use Rattle.ev_operations.proofs.courses.Courses.is_unfinished.Goals as goal

one_course : (a b : Course) → Some a ≡ Some b → a ≡ b
one_course a b is = cc

pub returns-then-unfinished : goal.returns-then-unfinished
returns-then-unfinished c = λ journal come.
    let index : ℕ = c.loop-course.course-index in
    let course : Course = c.course-item.result in
    let there : slice_get c.args.self.now.seats.items index ≡ Some course =
    ap (λ (cs : List Course). slice_get cs index) (sym c.as_slice-course-items.ensures.value)
    ∙ slice_get-get_or c.as_slice-course-items.result.now index course c.loop-course-test.true ∙ ap Some (sym c.course-item.is) in
    sym
    (seat_unfinished c.args.script.now journal c.args.self.now index course come there
    (sym c.is_unfinished-unfinished.ensures ∙ c.if-unfinished.true))

pub loop-course-preserved : goal.loop-course-preserved
loop-course-preserved c =
    let index : ℕ = c.loop-course.course-index in
    let course : Course = c.course-item.result in
    let there : slice_get c.as_slice-course-items.result.now index ≡ Some course =
    slice_get-get_or c.as_slice-course-items.result.now index course c.loop-course-test.true ∙ ap Some (sym c.course-item.is) in
    below_more
    (λ (seat : ℕ). (other : Course) → slice_get c.as_slice-course-items.result.now seat ≡ Some other
    → list_any (is_left c.args.script.now other.rests) (drop other.place other.dues) ≡ false)
    index c.loop-course.invariant
    (λ other is.
    subst (λ (one : Course). list_any (is_left c.args.script.now one.rests) (drop one.place one.dues) ≡ false)
    (one_course course other (sym there ∙ is))
    (sym c.is_unfinished-unfinished.ensures ∙ c.if-unfinished.false))

pub returns : goal.returns
returns c = λ journal come.
    let kept : IsScript c.args.script.now = subst IsScript c.script.view_is c.script.invariant in
    sym
    (all_finished c.args.script.now kept journal c.args.self.now come
    (λ seat course there.
    let here : slice_get c.as_slice-course-items.result.now seat ≡ Some course =
    ap (λ (cs : List Course). slice_get cs seat) c.as_slice-course-items.ensures.value ∙ there in
    let within : seat < length c.as_slice-course-items.result.now = below_there c.as_slice-course-items.result.now seat course here in
    let below : seat < c.loop-course.course-index = omega (arith, within, c.loop-course-test.false) in
    c.loop-course.invariant seat below course here))
