-- Objects that have a member. One that is `null` counts as absent.
use Rattle.std.specs.Prelude.{◌||◌, Bool, false, not, Option, Some, None, is_some}
use Rattle.serde_json.specs.Data.{Data, Members, no_members, member}
use Rattle.serde_json.specs.Find.{as_null, as_object}

-- it isn't null
abbrev pub is_present : Data → Bool
is_present d = not (is_some (as_null d))

-- one of these isn't null
abbrev pub any_present : Members → Bool
any_present no_members = false
any_present (member name d members) = is_present d || any_present members

-- there are members, and one of them isn't null
abbrev pub some_present : Option Members → Bool
some_present None = false
some_present (Some members) = any_present members

-- an object with a member of any name
abbrev pub has_member : Data → Bool
has_member d = some_present (as_object d)
