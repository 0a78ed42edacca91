use Rattle.std.proofs.Common.{◌≡◌, ◌<◌, length, ◌∙◌, arith}
use Rattle.ev_actors.proofs.ReplayLemmas.{settle_more}
use Rattle.ev_actors.proofs.replays.settle_all.Goals as goal

pub loop-number-preserved : goal.loop-number-preserved
loop-number-preserved g c =
    let count : length c.loop-number.workers ≡ length c.args.workers.now = c.loop-number.invariant.settling.count in
    let within : c.loop-number.number < length c.loop-number.workers = omega arith in
    record {
      settling =
          settle_more c.args.at c.loop-number.number (g.R.Journaled.shows c.args.journaled.now) (g.R.Journaled.shows c.loop-number.journaled) (g.R.Journaled.shows c.settle.new.journaled)
          c.args.workers.now c.loop-number.workers c.index-workers-number.result c.settle.new.worker c.loop-number.invariant.settling c.requires.working within c.in_ok-settle.ensures.settled;
      deferred = c.settle.ensures.deferred ∙ c.loop-number.invariant.deferred;
    }
