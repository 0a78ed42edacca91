use Rattle.std.proofs.Common.{◌≡◌, ℕ, List, take, length}
use Rattle.std.specs.Prelude.{nat_le}
use Rattle.std.specs.Str.{bytes_eq}
use Rattle.indexmap.specs.IndexSet.{contains}
use Rattle.ev_model.specs.Verdicts.{items_named}
use Rattle.ev_lookups.proofs.mentions.note_all.Given as goal

abbrev pub invariant-loop-item : goal.invariant-loop-item
invariant-loop-item l = record {
  named : (name : List ℕ) → contains bytes_eq l.named name ≡ nat_le 1 (length (items_named name (take l.item-index l.items)));
  twice : (name : List ℕ) → contains bytes_eq l.twice name ≡ nat_le 2 (length (items_named name (take l.item-index l.items)));
}
