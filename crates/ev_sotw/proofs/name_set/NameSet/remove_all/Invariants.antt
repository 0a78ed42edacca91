use Rattle.std.proofs.Common.{◌≡◌, take}
use Rattle.ev_model.specs.Requests.{other_than}
use Rattle.ev_sotw.proofs.name_set.NameSet.remove_all.Given as goal

abbrev pub invariant-loop-name : goal.invariant-loop-name
invariant-loop-name l = l.self ≡ other_than (take l.name-index l.names) l.initial.self
