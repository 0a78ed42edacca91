use Rattle.std.proofs.Common.{◌+◌, sym, subst, ◌∙◌}
use Rattle.ev_model.specs.Dead.{last_picture}
use Rattle.ev_actors.specs.Journals.{world_now}
use Rattle.ev_actors.specs.Taken.{HaveBegun}
use Rattle.ev_actors.proofs.ReplayLemmas.{begun_more}
use Rattle.ev_actors.proofs.replays.begin.Goals as goal

pub loop-number-preserved : goal.loop-number-preserved
loop-number-preserved g c =
    subst (HaveBegun (c.loop-number.number + 1) (last_picture (world_now (g.R.Journaled.shows c.args.journaled.now)))) (sym c.in_ok-push.ensures.items)
    (begun_more c.loop-number.number (last_picture (world_now (g.R.Journaled.shows c.args.journaled.now))) c.loop-number.workers.items c.in_ok-new.field-0
    c.loop-number.invariant
    (record {
      number = c.in_ok-new.ensures.number;
      picture = c.in_ok-new.ensures.picture ∙ c.in_ok-snapshot.ensures.picture;
      lines = c.in_ok-new.ensures.lines;
      made = c.in_ok-new.ensures.begins;
    }))
