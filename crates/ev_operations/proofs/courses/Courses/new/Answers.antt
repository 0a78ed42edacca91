use Rattle.std.proofs.Common.{List, [], sym, subst, refl}
use Rattle.ev_types.specs.declared.events.Actor.TheVariants.{Stream, Health, Timer, Main}
use Rattle.ev_operations.specs.declared.course.Course.{Course}
use Rattle.ev_operations.proofs.SeatLemmas.{AreSeated, none_seated, seat_put, worker_put}
use Rattle.ev_operations.proofs.courses.Courses.new.Goals as goal

pub loop-worker-init : goal.loop-worker-init
loop-worker-init c =
    let format = c.args.format in
    let script = c.args.script.now in
    let none : AreSeated format script [] 0 c.new-seats.result.items =
    subst (λ (cs : List Course). AreSeated format script [] 0 cs) (sym c.new-seats.ensures.items) (none_seated format script) in
    let one : AreSeated format script [] 1 c.push.new.self.items =
    seat_put format script 0 c.new-seats.result.items c.push.new.self.items Stream c.in_ok-begin.field-0 none refl c.in_ok-begin.ensures c.in_ok-push.ensures.items in
    let two : AreSeated format script [] 2 c.push-2.new.self.items =
    seat_put format script 1 c.push.new.self.items c.push-2.new.self.items Health c.in_ok-begin-2.field-0 one refl c.in_ok-begin-2.ensures c.in_ok-push-2.ensures.items in
    let three : AreSeated format script [] 3 c.push-3.new.self.items =
    seat_put format script 2 c.push-2.new.self.items c.push-3.new.self.items Timer c.in_ok-begin-3.field-0 two refl c.in_ok-begin-3.ensures c.in_ok-push-3.ensures.items in
    seat_put format script 3 c.push-3.new.self.items c.push-4.new.self.items Main c.in_ok-begin-4.field-0 three refl c.in_ok-begin-4.ensures c.in_ok-push-4.ensures.items

pub loop-worker-preserved : goal.loop-worker-preserved
loop-worker-preserved c =
    worker_put c.args.format c.args.script.now c.loop-worker.worker c.loop-worker.seats.items c.push-in-loop-worker.new.self.items c.in_ok-begin-5.field-0
    c.loop-worker.invariant c.in_ok-begin-5.ensures c.in_ok-push-5.ensures.items
