use Rattle.std.proofs.Common.{◌≡◌, map, take}
use Rattle.serde_json.specs.View.{view}
use Rattle.ev_journal.specs.Rendering.{verdict_tree}
use Rattle.ev_sotw.proofs.answers.verdict_values.Given as goal

abbrev pub invariant-loop-verdict : goal.invariant-loop-verdict
invariant-loop-verdict l = map view l.values.items ≡ map verdict_tree (take l.verdict-index l.verdicts)
