-- A line by the places of its keys.
use Rattle.std.proofs.Common.{◌≡◌, ℕ, Bool, cond, ◌||◌, List, [], ◌∷◌, map, Option, Some, None, option_map, is_some, codes, refl, ap, ap₂, ◌∙◌}
use Rattle.std.specs.List.{list_any}
use Rattle.serde_json.specs.Data.{Data, array}
use Rattle.serde_json.specs.View.{items_of}
use Rattle.ev_expand.specs.declared.keys.Key.{Key}
use Rattle.ev_expand.specs.Editing.{with_value}
use Rattle.ev_expand.specs.Fronts.{message_of}
use Rattle.ev_expand.specs.Guarding.{Guard, Guarded, clusters_in, place_in, place_at, waiting_entry, waiting_line, response_tree}
use Rattle.ev_expand.specs.Expanding.{Rules, written_line}
use Rattle.ev_expand.specs.Placing.{placed_entries, placed_line, placed_lines}

entries_as : (prefix : List ℕ) (guard : Guard) (gs : List Guarded) (entries : List Data)
    → placed_entries prefix entries (map (place_at guard gs) entries) ≡ map (λ (entry : Data). waiting_entry prefix (place_at guard gs entry) entry) entries
entries_as prefix guard gs [] = refl
entries_as prefix guard gs (entry ∷ entries) = ap (λ (xs : List Data). waiting_entry prefix (place_at guard gs entry) entry ∷ xs) (entries_as prefix guard gs entries)

some_as : (gs : List Guarded) (key : Option Key) → is_some (option_map (place_in gs) key) ≡ is_some key
some_as gs None = refl
some_as gs (Some key) = refl

any_as : (guard : Guard) (gs : List Guarded) (entries : List Data) → list_any is_some (map (place_at guard gs) entries) ≡ list_any (λ (entry : Data). is_some (guard.key_of entry)) entries
any_as guard gs [] = refl
any_as guard gs (entry ∷ entries) = ap₂ (λ (a b : Bool). a || b) (some_as gs (guard.key_of entry)) (any_as guard gs entries)

line_as : (prefix : List ℕ) (guard : Guard) (gs : List Guarded) (line : Data) → placed_line prefix (clusters_in guard.profile line) line (map (place_at guard gs) (clusters_in guard.profile line)) ≡ waiting_line prefix guard gs line
line_as prefix guard gs line = ap₂ (λ (b : Bool) (entries : List Data). cond b (response_tree (with_value (codes "resources") (array (items_of entries)) (message_of line))) line)
    (any_as guard gs (clusters_in guard.profile line)) (entries_as prefix guard gs (clusters_in guard.profile line))

-- with the places of its keys a line is as they wait
pub lines_as : (rules : Rules) (gs : List Guarded) (line : Data) (places : List (Option ℕ)) → places ≡ map (place_at rules.guard gs) (clusters_in rules.guard.profile line)
    → placed_lines rules line places ≡ written_line rules gs line
lines_as rules gs line places is =
    ap (placed_lines rules line) is ∙ ap (λ (l : Data). cond (rules.is_written line) (l ∷ []) []) (line_as rules.prefix rules.guard gs line)
