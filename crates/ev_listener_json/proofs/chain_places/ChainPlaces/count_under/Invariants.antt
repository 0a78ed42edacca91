use Rattle.std.proofs.Common.{◌≡◌, take}
use Rattle.ev_listener_json.specs.ChainPlaces.{count_under}
use Rattle.ev_listener_json.proofs.chain_places.ChainPlaces.count_under.Given as goal

abbrev pub invariant-loop-key : goal.invariant-loop-key
invariant-loop-key l = l.count ≡ count_under l.self (take l.key-index l.keys)
