use Rattle.std.proofs.Common.{◌≡◌, ◌+◌, ◌++◌, List, length, take, drop, ap, sym, subst, ◌∙◌, arith}
use Rattle.std.proofs.Math.Seq.{take-append_seam}
use Rattle.std.proofs.lemmas.List.{drop_all}
use Rattle.ev_types.specs.Scripts.{ScriptParts, IsScript}
use Rattle.ev_worker.specs.Workers.{WorkerParts}
use Rattle.ev_actors.specs.Taken.{HaveSettled, IsTaken, IsUnderWay}
use Rattle.ev_actors.specs.Journals.{JournalParts}
use Rattle.ev_actors.proofs.ReplayLemmas.{IsOnTheWay, ends, line_more}
use Rattle.ev_actors.proofs.replays.replay.Goals as goal

pub loop-line-preserved : goal.loop-line-preserved
loop-line-preserved g c =
    let old : List WorkerParts = c.loop-line.workers.items in
    let new : List WorkerParts = c.take_line.new.workers in
    let taken : IsTaken c.args.script.now.auto c.line-item.result (g.R.Journaled.shows c.loop-line.journaled) (g.R.Journaled.shows c.take_line.new.journaled) old new =
    subst (λ auto. IsTaken auto c.line-item.result (g.R.Journaled.shows c.loop-line.journaled) (g.R.Journaled.shows c.take_line.new.journaled) old new)
    (ap (λ (s : ScriptParts). s.auto) c.script.view_is)
    (subst (λ (ws : List WorkerParts). IsTaken c.script.inside.auto c.line-item.result (g.R.Journaled.shows c.loop-line.journaled) (g.R.Journaled.shows c.take_line.new.journaled) ws new)
    c.as_mut_slice.ensures.value c.in_ok-take_line.ensures.taken) in
    let way : IsOnTheWay c.args.script.now (g.R.Journaled.shows c.take_line.new.journaled) new _ _ =
    line_more c.args.script.now (g.R.Journaled.shows c.loop-line.journaled) (g.R.Journaled.shows c.take_line.new.journaled) old new
    c.as_slice-line-items.result.now c.loop-line.line-index c.line-item.result c.loop-line-test.true c.line-item.is
    (record { goes = c.loop-line.invariant.goes; drawn = c.loop-line.invariant.drawn; way = c.loop-line.invariant.way }) taken in
    let long : length c.as_mut_slice.result.now ≡ c.loop-line.workers.len = c.as_mut_slice.ensures.len in
    let held : length c.as_mut_slice.result.now ≡ length old = ap length c.as_mut_slice.ensures.value in
    let count : length new ≡ length old = taken.count in
    let same : length new ≡ c.loop-line.workers.len = omega arith in
    record {
      goes = way.goes;
      drawn = way.drawn;
      way =
          subst (λ (ws : List WorkerParts). IsUnderWay c.args.script.now (g.R.Journaled.shows c.take_line.new.journaled) ws (drop (c.loop-line.line-index + 1) c.as_slice-line-items.result.now))
          (sym (ap (λ n. take n (new ++ drop (length new) old)) (sym same) ∙ take-append_seam new (drop (length new) old))) way.way;
      let_go = λ none. c.in_ok-take_line.ensures.let_go (c.loop-line.invariant.let_go none);
    }

pub returns-clause-replayed : goal.returns-clause-replayed
returns-clause-replayed g c =
    let parts : JournalParts = g.R.Journaled.shows c.loop-line.journaled in
    let after : JournalParts = g.R.Journaled.shows c.settle_all.new.journaled in
    ends c.args.script.now parts after c.loop-line.workers.items (c.script.inside.count + 1)
    (subst IsScript c.script.view_is c.script.invariant)
    (ap (λ (s : ScriptParts). s.count + 1) c.script.view_is)
    c.loop-line.invariant.goes
    (subst (IsUnderWay c.args.script.now parts c.loop-line.workers.items) (drop_all c.loop-line.line-index c.as_slice-line-items.result.now c.loop-line-test.false) c.loop-line.invariant.way)
    (subst (HaveSettled (c.script.inside.count + 1) parts after) c.as_mut_slice-2.ensures.value c.in_ok-settle_all.ensures.settled)
    c.journal.ensures.run

pub returns-clause-let_go : goal.returns-clause-let_go
returns-clause-let_go g c = λ none. c.in_ok-settle_all.ensures.deferred ∙ c.loop-line.invariant.let_go none
