use Rattle.std.proofs.Common.{◌≡◌, map, take}
use Rattle.serde_json.specs.View.{view}
use Rattle.ev_sotw.specs.Follows.{request_by}
use Rattle.ev_sotw.proofs.answers.request_values.Given as goal

abbrev pub invariant-loop-request : goal.invariant-loop-request
invariant-loop-request l = map view l.values.items ≡ map (request_by l.state) (take l.request-index l.requests)
