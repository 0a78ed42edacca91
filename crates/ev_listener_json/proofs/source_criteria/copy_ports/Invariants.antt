use Rattle.std.proofs.Common.{◌≡◌, map, take}
use Rattle.serde_json.specs.View.{view}
use Rattle.ev_listener_json.specs.SourceCriteria.{source_port_in}
use Rattle.ev_listener_json.proofs.source_criteria.copy_ports.Given as goal

abbrev pub invariant-loop-element : goal.invariant-loop-element
invariant-loop-element l = l.ports.items ≡ map source_port_in (map view (take l.element-index l.elements))
