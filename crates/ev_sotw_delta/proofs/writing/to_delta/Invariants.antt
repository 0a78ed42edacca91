use Rattle.std.proofs.Common.{◌≡◌, ◌++◌, length, map}
use Rattle.std.specs.Vec.Iter.{into_iter_items, into_iter_len}
use Rattle.serde_json.specs.View.{view}
use Rattle.ev_script.specs.Members.{tree_told}
use Rattle.ev_sotw.specs.LineFollows.{FollowsLines}
use Rattle.ev_sotw.specs.Text.{versions_in}
use Rattle.ev_sotw_delta.specs.DeltaText.{IsWritten}
use Rattle.ev_sotw_delta.proofs.DeltaLemmas.{written_lines}
use Rattle.ev_sotw_delta.proofs.writing.to_delta.Given as goal

abbrev pub invariant-loop-line : goal.invariant-loop-line
invariant-loop-line l = record {
  parts : l.yielded ++ into_iter_items l.line-iterator ≡ l.fn.trees.lines.items;
  count : into_iter_len l.line-iterator ≡ length (into_iter_items l.line-iterator);
  follows : FollowsLines l.fn.trees.header.profile (map tree_told l.yielded) l.names;
  written : IsWritten (written_lines l.fn.trees.header.profile (view l.fn.trees.head) (map tree_told l.yielded)) l.text;
  versions : l.versions.items ≡ versions_in l.fn.trees.header.profile (map tree_told l.yielded);
}
