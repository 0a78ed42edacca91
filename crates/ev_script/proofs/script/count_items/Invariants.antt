use Rattle.std.proofs.Common.{◌≡◌, ◌<◌, take}
use Rattle.ev_types.specs.Scripts.{items_of}
use Rattle.ev_script.proofs.script.count_items.Given as goal

abbrev pub invariant-loop-line : goal.invariant-loop-line
invariant-loop-line l = record {
  count : l.count ≡ items_of (take l.line-index l.lines);
  few : l.count < 4294967295;
}
