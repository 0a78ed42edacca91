use Rattle.std.proofs.Common.{◌≡◌, ◌++◌, map, string_bytes}
use Rattle.serde_json.specs.Data.{string}
use Rattle.serde_json.specs.View.{view}
use Rattle.ev_model.specs.Requests.{other_than}
use Rattle.ev_sotw.proofs.name_set.NameSet.values_without.Given as goal

abbrev pub invariant-loop-name : goal.invariant-loop-name
invariant-loop-name l = map string (other_than l.others l.self) ≡ map view l.values.items ++ map string (other_than l.others (map string_bytes l.name-iterator))
