use Rattle.std.proofs.Common.{◌≡◌, List, ◌++◌, map, filter_map, take}
use Rattle.serde_json.specs.View.{view}
use Rattle.ev_expand.specs.Guarding.{Guarded, guarded_of, each_once}
use Rattle.ev_expand.specs.Numbers.{guarded_so_far}
use Rattle.ev_expand.proofs.NumberLemmas.{ArePlaced}
use Rattle.ev_expand.proofs.guarding.places_in.Given as goal

abbrev pub invariant-loop-index : goal.invariant-loop-index
invariant-loop-index g l = record {
  numbers : (gs : List Guarded) → guarded_so_far l.initial.numbers ≡ each_once gs
      → guarded_so_far l.numbers ≡ each_once (gs ++ filter_map (guarded_of (g.E.Expansion.rules l.profile).guard) (map view (take l.index l.entries)));
  placed : ArePlaced (g.E.Expansion.rules l.profile).guard (map view (take l.index l.entries)) (guarded_so_far l.numbers) l.places.items;
}
