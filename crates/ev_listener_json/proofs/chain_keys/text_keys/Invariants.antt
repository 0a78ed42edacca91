use Rattle.std.proofs.Common.{◌≡◌, map, take}
use Rattle.ev_listener_json.specs.ChainKeys.{text_key}
use Rattle.ev_listener_json.proofs.chain_keys.text_keys.Given as goal

abbrev pub invariant-loop-text : goal.invariant-loop-text
invariant-loop-text l = l.keys.items ≡ map (text_key l.mark) (take l.text-index l.texts)
