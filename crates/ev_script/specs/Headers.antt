-- The headers that a connection brings. Source: HTTP's names of fields,
-- in which the case of ASCII letters doesn't count.
use Rattle.std.specs.Prelude.{ℕ, ◌||◌, List, [], Bool, if◌then◌else◌, codes, Option, Some, option_and_then}
use Rattle.std.specs.declared.cmp.Ordering.{Ordering}
use Rattle.std.specs.Ordering.{nat_cmp}
use Rattle.std.specs.Cmp.Lexicographic.{slice_cmp}
use Rattle.std.specs.BTreeMap.{insert_entry}
use Rattle.std.specs.Str.{bytes_eq, str_to_ascii_lowercase}
use Rattle.serde_json.specs.Data.{Data, Members, no_members, member}
use Rattle.serde_json.specs.Find.{as_object, as_str}

-- headers by their names, each name once
abbrev pub Headers : Type 0
Headers = List (List ℕ × List ℕ)

-- names are in the order of their bytes
abbrev pub name_order : List ℕ → List ℕ → Ordering
name_order name other = slice_cmp nat_cmp name other

-- what the members `host` and `path` say, and no header does
abbrev pub is_member_of_ask : List ℕ → Bool
is_member_of_ask name = bytes_eq name (codes ":authority") || bytes_eq name (codes ":path")

-- one header more, whose value takes the place of an earlier one's of its name
abbrev pub with_header : List ℕ → List ℕ → Headers → Headers
with_header name value headers = if is_member_of_ask name then headers else insert_entry name_order headers name value

-- these headers and then an object's members, each name in lower case, or none where a member is no text
abbrev pub headers_with : Headers → Members → Option Headers
headers_with headers no_members = Some headers
headers_with headers (member name value others) =
    option_and_then (λ text. headers_with (with_header (str_to_ascii_lowercase name) text headers) others) (as_str value)

-- the headers that an object's members are, of which the last of a name counts
abbrev pub headers_of : Data → Option Headers
headers_of tree = option_and_then (headers_with []) (as_object tree)
