-- Members of an object, as entries of its map.
use Rattle.std.proofs.Common.{◌≡◌, List, [], ◌∷◌, ◌&&◌, ◌||◌, not, String, Global, string_bytes, refl, ap}
use Rattle.std.specs.List.{list_any}
use Rattle.serde_json.specs.View.{view, members_view}
use Rattle.serde_json.specs.declared.value.Value.{Value}
use Rattle.ev_listener_json.specs.Members.{is_present}
use Rattle.ev_chains.specs.Matches.{any_other, is_known}

pub any_other-view : (ms : List (String Global × Value)) → list_any (λ m. is_present (view m.1) && not (is_known (string_bytes m.0))) ms ≡ any_other (members_view ms)
any_other-view [] = refl
any_other-view (m ∷ ms) = ap (λ b. (is_present (view m.1) && not (is_known (string_bytes m.0))) || b) (any_other-view ms)
