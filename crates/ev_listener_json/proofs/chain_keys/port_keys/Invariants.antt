use Rattle.std.proofs.Common.{◌≡◌, map, take}
use Rattle.ev_listener_json.specs.ChainKeys.{port_key}
use Rattle.ev_listener_json.proofs.chain_keys.port_keys.Given as goal

abbrev pub invariant-loop-port : goal.invariant-loop-port
invariant-loop-port l = l.keys.items ≡ map (port_key l.mark) (take l.port-index l.ports)
