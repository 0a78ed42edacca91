use Rattle.std.proofs.Common.{◌≡◌, ◌++◌, map, take}
use Rattle.ev_sotw.specs.Follows.{FollowsEntries}
use Rattle.ev_sotw.specs.Text.{stated_by, lines_told}
use Rattle.ev_sotw.proofs.rendering.render_sotw.Given as goal

abbrev pub invariant-loop-entry : goal.invariant-loop-entry
invariant-loop-entry l = record {
  follows : FollowsEntries (map (stated_by l.versions) (take l.entry-index l.journal)) l.state;
  lines : l.text.items ≡ l.initial.text.items ++ lines_told (map (stated_by l.versions) (take l.entry-index l.journal));
}
