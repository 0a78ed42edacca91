use Rattle.std.proofs.Common.{◌≡◌, take}
use Rattle.ev_sotw.specs.Names.{with_names}
use Rattle.ev_sotw.proofs.name_set.NameSet.insert_all.Given as goal

abbrev pub invariant-loop-name : goal.invariant-loop-name
invariant-loop-name l = l.self ≡ with_names (take l.name-index l.names) l.initial.self
