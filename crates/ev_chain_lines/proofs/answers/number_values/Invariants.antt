use Rattle.std.proofs.Common.{◌≡◌, map, take}
use Rattle.serde_json.specs.View.{view}
use Rattle.ev_journal.specs.Rendering.{number_tree}
use Rattle.ev_chain_lines.proofs.answers.number_values.Given as goal

abbrev pub invariant-loop-number : goal.invariant-loop-number
invariant-loop-number l = map view l.values.items ≡ map number_tree (take l.number-index l.numbers)
