use Rattle.std.proofs.Common.{◌≡◌, map, take}
use Rattle.serde_json.specs.View.{view}
use Rattle.ev_wire.specs.Requests.{request_tree}
use Rattle.ev_journal.proofs.answers.request_values.Given as goal

abbrev pub invariant-loop-request : goal.invariant-loop-request
invariant-loop-request l = map view l.values.items ≡ map request_tree (take l.request-index l.requests)
