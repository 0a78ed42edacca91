-- Fields that only count as given.
use Rattle.std.proofs.Common.{◌≡◌, ◌∙◌, ap, refl}
use Rattle.std.specs.Prelude.{ℕ, List, not}
use Rattle.std.specs.List.{list_any}
use Rattle.serde_json.specs.Data.{Data, no_items, item}
use Rattle.ev_tree.specs.declared.outcome.Found.{Found}
use Rattle.ev_tree.specs.declared.outcome.Found.TheVariants.{Absent, Wrong, Given}
use Rattle.ev_tree.specs.Forms.{field_of}
use Rattle.ev_route_json.specs.Presence.{any_given, any_doubled, is_empty_array, is_filled, any_filled}
use Rattle.ev_tree.specs.Floats.{whole}
use Rattle.ev_whole_laws.proofs.Forms.{field-is_given, field-is_wrong, field_of-whole}
use Rattle.serde_json.specs.Data.{boolean, null, number, string, array, object}
use Rattle.ev_tree.specs.Forms.{found_map}

pub any_given-whole : (names : List (List ℕ)) (tree : Data) → any_given names (whole tree) ≡ any_given names tree
any_given-whole names tree = λ i. list_any (λ name. field-is_given name tree i) names

pub any_doubled-whole : (names : List (List ℕ)) (tree : Data) → any_doubled names (whole tree) ≡ any_doubled names tree
any_doubled-whole names tree = λ i. list_any (λ name. field-is_wrong name tree i) names

filled : (tree : Data) → is_empty_array (whole tree) ≡ is_empty_array tree
filled null = refl
filled (boolean b) = refl
filled (number n) = refl
filled (string s) = refl
filled (array no_items) = refl
filled (array (item d ds)) = refl
filled (object ms) = refl

pub is_filled-whole : (found : Found Data) → is_filled (found_map whole found) ≡ is_filled found
is_filled-whole Absent = refl
is_filled-whole Wrong = refl
is_filled-whole (Given d) = ap not (filled d)

pub any_filled-whole : (names : List (List ℕ)) (tree : Data) → any_filled names (whole tree) ≡ any_filled names tree
any_filled-whole names tree = λ i. list_any (λ name. (ap is_filled (field_of-whole name tree) ∙ is_filled-whole (field_of name tree)) i) names
