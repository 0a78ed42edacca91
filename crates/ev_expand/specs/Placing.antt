-- A line whose guarded resources have these places.
use Rattle.std.specs.Prelude.{◌≡◌, ℕ, List, [], ◌∷◌, Option, is_some, option_map, unwrap_or, codes, if◌then◌else◌}
use Rattle.std.specs.List.{list_any}
use Rattle.serde_json.specs.Data.{Data, array}
use Rattle.serde_json.specs.View.{view, items_of}
use Rattle.serde_json.specs.declared.value.Value.{Value}
use Rattle.ev_expand.specs.Editing.{with_value}
use Rattle.ev_expand.specs.Fronts.{message_of}
use Rattle.ev_expand.specs.Guarding.{clusters_in, waiting_entry, response_tree}
use Rattle.ev_expand.specs.Expanding.{Rules}

-- resources with these places
abbrev pub placed_entries : List ℕ → List Data → List (Option ℕ) → List Data
placed_entries prefix [] places = []
placed_entries prefix (entry ∷ entries) [] = []
placed_entries prefix (entry ∷ entries) (place ∷ places) = waiting_entry prefix place entry ∷ placed_entries prefix entries places

-- a line of these resources, which have these places
abbrev pub placed_line : List ℕ → List Data → Data → List (Option ℕ) → Data
placed_line prefix entries line places =
    if list_any is_some places
    then response_tree (with_value (codes "resources") (array (items_of (placed_entries prefix entries places))) (message_of line))
    else line

-- what is made of a line, or the line itself where nothing is made, is the line of these resources, which have these
-- places
abbrev pub IsPlaced : List ℕ → List Data → Data → List (Option ℕ) → Option Value → Type 0
IsPlaced prefix entries line places made = unwrap_or (option_map view made) line ≡ placed_line prefix entries line places

-- the line itself, where it is written
abbrev pub placed_lines : Rules → Data → List (Option ℕ) → List Data
placed_lines rules line places =
    if rules.is_written line then placed_line rules.prefix (clusters_in rules.guard.profile line) line places ∷ [] else []
