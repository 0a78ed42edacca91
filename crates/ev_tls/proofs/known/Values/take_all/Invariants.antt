use Rattle.std.proofs.Common.{◌≡◌, ℕ, List, map}
use Rattle.std.specs.Str.{bytes_eq}
use Rattle.indexmap.specs.IndexSet.{contains}
use Rattle.ev_tls.specs.Known.{shown_value, later_value, gives_to}
use Rattle.ev_tls.specs.Told.{value_shown}
use Rattle.ev_tls.proofs.known.Values.take_all.Given as goal

abbrev pub invariant-loop-name : goal.invariant-loop-name
invariant-loop-name l = record {
  values : (name : List ℕ) → shown_value l.self name ≡ later_value name (shown_value l.initial.self name) (map value_shown l.yielded);
  names : (name : List ℕ) → contains bytes_eq l.names name ≡ gives_to name (map value_shown l.yielded);
}
