use Rattle.std.proofs.Common.{◌≡◌, map, take}
use Rattle.ev_listener_json.specs.ChainKeys.{range_key}
use Rattle.ev_listener_json.proofs.chain_keys.range_keys.Given as goal

abbrev pub invariant-loop-range : goal.invariant-loop-range
invariant-loop-range l = l.keys.items ≡ map (range_key l.mark) (take l.range-index l.ranges)
