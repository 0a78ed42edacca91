-- JSON values and members of objects, as the lines of a script have them. Only the written name of a
-- member counts, and a member `null` is a member.
use Rattle.std.specs.Prelude.{ℕ, ◌&&◌, List, [], ◌∷◌, length, Bool, true, false, nat_le, if◌then◌else◌, codes, Option, None, Some, option_map, option_and_then, unwrap_or}
use Rattle.std.specs.List.{list_any}
use Rattle.std.specs.Str.{bytes_eq, is_utf8}
use denote.Ref.{Bor}
use Rattle.serde_json.specs.Data.{Data, null, boolean, number, string, array, object, Items, no_items, item, Members, no_members, member}
use Rattle.serde_json.specs.Read.{read}
use Rattle.serde_json.specs.Find.{get, as_number, as_u64, as_str, as_array}
use Rattle.ev_types.specs.declared.limits.TheConstants.{MAX_NAME_LENGTH}

-- the value that bytes are, where they are JSON in UTF-8
abbrev pub tree_of : List ℕ → Option Data
tree_of bytes = if is_utf8 bytes then read bytes else None

-- the value that bytes are, of bytes that are one
abbrev pub tree_told : List ℕ → Data
tree_told bytes = unwrap_or (tree_of bytes) null

-- a text is one of these
abbrev pub is_text_among : List ℕ → List (Bor (List ℕ)) → Bool
is_text_among text names = list_any (λ name. bytes_eq text name.now) names

-- every member has one of these names
abbrev pub names_only : List (List ℕ) → Members → Bool
names_only names no_members = true
names_only names (member name value others) = list_any (bytes_eq name) names && names_only names others

-- an object with no member but those of these names
abbrev pub has_only : List (List ℕ) → Data → Bool
has_only names null = false
has_only names (boolean b) = false
has_only names (number n) = false
has_only names (string s) = false
has_only names (array values) = false
has_only names (object members) = names_only names members

-- a whole number within bounds
abbrev pub whole_within : ℕ → ℕ → Data → Option ℕ
whole_within low high tree = option_and_then (λ n. if nat_le low n && nat_le n high then Some n else None) (option_and_then as_u64 (as_number tree))

-- a text of this many bytes
abbrev pub text_within : ℕ → ℕ → Data → Option (List ℕ)
text_within low high tree = option_and_then (λ text. if nat_le low (length text) && nat_le (length text) high then Some text else None) (as_str tree)

-- a name: a text of 1 to 512 bytes
abbrev pub name_of : Data → Option (List ℕ)
name_of tree = text_within 1 MAX_NAME_LENGTH tree

-- the texts that values are, or none where one of them is another value
abbrev pub texts_of : Items → Option (List (List ℕ))
texts_of no_items = Some []
texts_of (item tree others) = option_and_then (λ text. option_map (λ texts. text ∷ texts) (texts_of others)) (as_str tree)

-- a list of texts of any lengths
abbrev pub texts_in : Data → Option (List (List ℕ))
texts_in tree = option_and_then texts_of (as_array tree)

-- what a form gives for a value that is there, or the default for one that isn't
abbrev pub or_default : {A : Type 0} → (Data → Option A) → A → Option Data → Option A
or_default form default None = Some default
or_default form default (Some tree) = form tree

-- ---- a member by its name

-- a member that has to be there
abbrev pub member_of : {A : Type 0} → (Data → Option A) → List ℕ → Data → Option A
member_of form name tree = option_and_then form (get name tree)

-- a member that may be absent
abbrev pub member_or : {A : Type 0} → A → (Data → Option A) → List ℕ → Data → Option A
member_or default form name tree = or_default form default (get name tree)

-- ---- the operation of a line

-- there is a text, and it is this word
abbrev pub is_word : List ℕ → Option (List ℕ) → Bool
is_word word None = false
is_word word (Some op) = bytes_eq op word

-- the operation of a line has this word
abbrev pub is_op : List ℕ → Data → Bool
is_op word tree = is_word word (member_of as_str (codes "op") tree)
