use Rattle.std.proofs.Common.{take}
use Rattle.ev_listener_json.specs.ChainPlaces.{Enters}
use Rattle.ev_listener_json.proofs.chain_places.ChainPlaces.put_all.Given as goal

abbrev pub invariant-loop-key : goal.invariant-loop-key
invariant-loop-key l = Enters (take l.key-index l.keys) l.place l.initial.self l.self
