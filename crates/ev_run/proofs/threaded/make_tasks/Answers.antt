use Rattle.std.proofs.Common.{◌≡◌, ◌+◌, ◌<◌, ◌++◌, ◌∷◌, [], length, ap, sym, ◌∙◌, subst, length-append, arith}
use Rattle.ev_run.specs.declared.player.Task.TheVariants.{Worker}
use Rattle.ev_run.specs.Playing.{EachAt, IsTask}
use Rattle.ev_run.proofs.PlaceLemmas.{each_more, worker_ready}
use Rattle.ev_run.proofs.threaded.make_tasks.Goals as goal

pub loop-number-preserved : goal.loop-number-preserved
loop-number-preserved g c =
    let longer : length (c.loop-number.tasks.items ++ Worker c.in_ok-make_worker.field-0 ∷ []) ≡ length c.loop-number.tasks.items + 1 =
    length-append c.loop-number.tasks.items (Worker c.in_ok-make_worker.field-0 ∷ []) in
    let count : length c.loop-number.tasks.items ≡ 4 + c.loop-number.number = c.loop-number.invariant.count in
    let more : length (c.loop-number.tasks.items ++ Worker c.in_ok-make_worker.field-0 ∷ []) ≡ 4 + (c.loop-number.number + 1) = omega arith in
    let within : c.loop-number.number < c.args.script.now.workers = omega arith in
    record {
      count = ap length c.in_ok-push.ensures.items ∙ more;
      each =
          subst (EachAt (IsTask c.args.script.now)) (sym c.in_ok-push.ensures.items)
          (each_more (IsTask c.args.script.now) c.loop-number.tasks.items (Worker c.in_ok-make_worker.field-0) c.loop-number.invariant.each
          (subst (λ n. IsTask c.args.script.now n (Worker c.in_ok-make_worker.field-0)) (sym count)
          (worker_ready c.args.script.now (g.J.Journaled.shows c.args.journaled.now) c.loop-number.number c.in_ok-make_worker.field-0 c.requires.begins
          within c.in_ok-make_worker.ensures)));
    }
