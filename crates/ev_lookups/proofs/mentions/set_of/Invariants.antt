use Rattle.std.proofs.Common.{◌≡◌, ℕ, List, take}
use Rattle.std.specs.Str.{bytes_eq}
use Rattle.indexmap.specs.IndexSet.{contains}
use Rattle.ev_model.specs.Verdicts.{is_among}
use Rattle.ev_lookups.proofs.mentions.set_of.Given as goal

abbrev pub invariant-loop-name : goal.invariant-loop-name
invariant-loop-name l = (name : List ℕ) → contains bytes_eq l.set name ≡ is_among name (take l.name-index l.names)
