-- Members of an object, as entries of its map.
use Rattle.std.proofs.Common.{◌≡◌, List, [], ◌∷◌, map, String, Global, refl, ap, ◌||◌}
use Rattle.std.specs.List.{list_any}
use Rattle.serde_json.specs.View.{view, members_view}
use Rattle.serde_json.specs.declared.value.Value.{Value}
use Rattle.ev_listener_json.specs.Members.{any_present, is_present}

pub any_present-view : (ms : List (String Global × Value)) → list_any (λ v. is_present (view v)) (map (λ m. m.1) ms) ≡ any_present (members_view ms)
any_present-view [] = refl
any_present-view (m ∷ ms) = ap (λ b. is_present (view m.1) || b) (any_present-view ms)
