use Rattle.std.proofs.Common.{◌≡◌, ◌<◌, ◌≤◌, ◌+◌, List, Some, length, get_or, slice_get, refl, ap, sym, ◌∙◌, subst, arith}
use Rattle.std.proofs.lemmas.Option.{slice_get-get_or}
use Rattle.ev_types.specs.Scripts.{IsScript}
use Rattle.ev_operations.specs.declared.due.Due.{Due}
use Rattle.ev_operations.specs.declared.due.Due.TheVariants.{Line}
use Rattle.ev_model_laws.specs.Walks.{may_leave_out}
use Rattle.ev_operations.specs.Courses.{seat_of}
use Rattle.ev_operations.specs.declared.course.Course.{Course}
use Rattle.ev_operations.specs.declared.courses.Found.{Found}
use Rattle.ev_operations.proofs.SeatLemmas.{found_seated, no_seat, stray_seated}
use Rattle.ev_operations.proofs.courses.Courses.find.Goals as goal

pub returns-then-seat-len-clause-none : goal.returns-then-seat-len-clause-none
returns-then-seat-len-clause-none c = λ none journal come.
    let kept : IsScript c.args.script.now = subst IsScript c.script.view_is c.script.invariant in
    let count : length c.args.self.now.seats.items ≡ 4 + c.args.script.now.workers = come.count in
    let seat : c.seat_of-seat.result ≡ seat_of c.args.row.now.actor = c.seat_of-seat.ensures in
    let past : 4 + c.args.script.now.workers ≤ seat_of c.args.row.now.actor = omega arith in
    no_seat c.args.script.now kept journal c.args.row.now (may_leave_out c.args.self.now.format c.args.script.now journal c.args.row.now.actor) past

pub returns-in_err-place-clause-none : goal.returns-in_err-place-clause-none
returns-in_err-place-clause-none c = λ none journal come.
    let course : Course = c.index-course.result.now in
    let below : c.seat_of-seat.result < length c.args.self.now.seats.items = omega arith in
    let there : slice_get c.args.self.now.seats.items c.seat_of-seat.result ≡ Some course =
    slice_get-get_or c.args.self.now.seats.items c.seat_of-seat.result course below ∙ ap Some (sym c.index-course.ensures) in
    stray_seated c.args.script.now journal c.args.row.now c.args.self.now course come
    (ap (slice_get c.args.self.now.seats.items) (sym c.seat_of-seat.ensures) ∙ there)
    (λ os are. c.in_err-place.ensures.none refl os are)

pub returns-clause-found : goal.returns-clause-found
returns-clause-found c = λ journal come.
    let course : Course = c.index-course.result.now in
    let below : c.seat_of-seat.result < length c.args.self.now.seats.items = omega arith in
    let there : slice_get c.args.self.now.seats.items c.seat_of-seat.result ≡ Some course =
    slice_get-get_or c.args.self.now.seats.items c.seat_of-seat.result course below ∙ ap Some (sym c.index-course.ensures) in
    let found : Found = record {
      seat = c.seat_of-seat.result;
      place = c.in_ok-place.place;
      due = get_or c.as_slice.result.now c.in_ok-place.place (Line 0);
    } in
    found_seated c.args.script.now journal c.args.row.now c.args.self.now found course come c.seat_of-seat.ensures there
    (slice_get-get_or course.dues c.in_ok-place.place (Line 0) c.in_ok-place.ensures.there
    ∙ ap (λ (ds : List Due). Some (get_or ds c.in_ok-place.place (Line 0))) (sym c.as_slice.ensures.elements))
    (λ os are. c.in_ok-place.ensures.found os are)
