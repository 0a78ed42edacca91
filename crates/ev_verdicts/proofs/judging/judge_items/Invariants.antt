use Rattle.std.proofs.Common.{◌≡◌, ◌++◌, [], drop, length}
use Rattle.ev_verdicts.specs.Judged.{all_judged}
use Rattle.ev_verdicts.proofs.judging.judge_items.Given as goal

abbrev pub invariant-loop-item : goal.invariant-loop-item
invariant-loop-item g l = record {
  so_far :
      l.verdicts.items ++ all_judged (g.K.Known.answers l.known) l.kind l.mentions l.made (drop l.item-index l.items)
      ≡ all_judged (g.K.Known.answers l.known) l.kind l.mentions [] l.items;
  one_each : length l.verdicts.items ≡ l.item-index;
}
