use Rattle.std.proofs.Common.{◌≡◌, true, take}
use Rattle.std.specs.List.{list_all}
use Rattle.std.specs.Str.{bytes_eq}
use Rattle.indexmap.specs.IndexSet.{contains}
use Rattle.ev_tls.proofs.known.Told.first_told.Given as goal

abbrev pub invariant-loop-index : goal.invariant-loop-index
invariant-loop-index l = list_all (contains bytes_eq l.self.secrets) (take l.initial.index l.secrets) ≡ true
    → list_all (contains bytes_eq l.self.secrets) (take l.index l.secrets) ≡ true
