-- Objects with a member put in or left out.
use Rattle.std.specs.Prelude.{ℕ, List, if◌then◌else◌}
use Rattle.std.specs.Str.{bytes_eq}
use Rattle.serde_json.specs.Data.{Data, null, boolean, number, string, array, object, Members, no_members, member, put}

-- the members but those of this name
abbrev pub members_without : List ℕ → Members → Members
members_without name no_members = no_members
members_without name (member key value others) =
    if bytes_eq name key then members_without name others else member key value (members_without name others)

-- an object without the members of this name
abbrev pub without : List ℕ → Data → Data
without name null = null
without name (boolean b) = boolean b
without name (number n) = number n
without name (string s) = string s
without name (array values) = array values
without name (object members) = object (members_without name members)

-- an object with this value as the member of this name
abbrev pub with_value : List ℕ → Data → Data → Data
with_value name value null = null
with_value name value (boolean b) = boolean b
with_value name value (number n) = number n
with_value name value (string s) = string s
with_value name value (array values) = array values
with_value name value (object members) = object (put name value members)
