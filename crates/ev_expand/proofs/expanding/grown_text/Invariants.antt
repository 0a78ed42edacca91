use Rattle.std.proofs.Common.{map, take}
use Rattle.serde_json.specs.View.{view}
use Rattle.ev_script.specs.Members.{tree_told}
use Rattle.ev_expand.specs.Growing.{IsGrown}
use Rattle.ev_expand.specs.Numbers.{guarded_so_far}
use Rattle.ev_expand.proofs.expanding.grown_text.Given as goal

abbrev pub invariant-loop-index : goal.invariant-loop-index
invariant-loop-index g l = record {
  grown : IsGrown (g.E.Expansion.rules l.profile) (view l.head) (map tree_told (take l.index l.lines)) l.text (guarded_so_far l.numbers);
  behind : g.E.Expansion.is_behind l.profile l.expansion (map tree_told (take l.index l.lines));
}
