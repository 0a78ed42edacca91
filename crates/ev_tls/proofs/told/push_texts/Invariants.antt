use Rattle.std.proofs.Common.{◌≡◌, ◌++◌, filter_map, take}
use Rattle.ev_cluster_json.specs.Made.{name_in}
use Rattle.ev_tls.proofs.told.push_texts.Given as goal

abbrev pub invariant-loop-text : goal.invariant-loop-text
invariant-loop-text l = l.names.items ≡ l.initial.names.items ++ filter_map name_in (take l.text-index l.texts)
