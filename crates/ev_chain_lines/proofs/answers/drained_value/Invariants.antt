use Rattle.std.proofs.Common.{◌≡◌, map, take}
use Rattle.serde_json.specs.View.{view}
use Rattle.ev_journal.specs.Rendering.{number_tree}
use Rattle.ev_chain_lines.proofs.answers.drained_value.Given as goal

abbrev pub invariant-loop-conn : goal.invariant-loop-conn
invariant-loop-conn l = map view l.values.items ≡ map number_tree (take l.conn-index l.conns)
