-- Arrays with no elements.
use Rattle.std.proofs.Common.{◌≡◌, List, [], ◌∷◌, length, nat_eq, Some, refl, arith}
use Rattle.std.proofs.lemmas.Bool.Decides.{nat_tests}
use Rattle.serde_json.specs.View.{items_view}
use Rattle.serde_json.specs.declared.value.Value.{Value}
use Rattle.ev_route_json.specs.Presence.{has_no_items}

pub has_no_items-view : (vs : List Value) → nat_eq (length vs) 0 ≡ has_no_items (Some (items_view vs))
has_no_items-view [] = refl
has_no_items-view (v ∷ vs) = grind (arith, nat_tests)
