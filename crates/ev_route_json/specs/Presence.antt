-- Fields that only count as given, of any form but `null`: in both spellings they are a wrong form.
use Rattle.std.specs.Prelude.{ℕ, List, Bool, true, false, not, Option, Some, None}
use Rattle.std.specs.List.{list_any}
use Rattle.serde_json.specs.Data.{Data, Items, no_items, item}
use Rattle.serde_json.specs.Find.{as_array}
use Rattle.ev_tree.specs.declared.outcome.Found.{Found}
use Rattle.ev_tree.specs.declared.outcome.Found.TheVariants.{Absent, Wrong, Given}
use Rattle.ev_tree.specs.Forms.{is_wrong, is_given, field_of}

-- one of these fields is given
abbrev pub any_given : List (List ℕ) → Data → Bool
any_given names tree = list_any (λ name. is_given (field_of name tree)) names

-- one of these fields is given in both spellings
abbrev pub any_doubled : List (List ℕ) → Data → Bool
any_doubled names tree = list_any (λ name. is_wrong (field_of name tree)) names

abbrev pub has_no_items : Option Items → Bool
has_no_items None = false
has_no_items (Some no_items) = true
has_no_items (Some (item d ds)) = false

abbrev pub is_empty_array : Data → Bool
is_empty_array d = has_no_items (as_array d)

-- given, and not an empty array
abbrev pub is_filled : Found Data → Bool
is_filled Absent = false
is_filled Wrong = false
is_filled (Given d) = not (is_empty_array d)

-- one of these fields is given and isn't an empty array
abbrev pub any_filled : List (List ℕ) → Data → Bool
any_filled names tree = list_any (λ name. is_filled (field_of name tree)) names
