-- The frame of a listener: its body without its members about filter chains, in both spellings of their names.
use Rattle.std.specs.Prelude.{ℕ, ◌≡◌, ◌||◌, List, [], Bool, if◌then◌else◌, String, codes}
use Rattle.std.specs.declared.alloc.Global.{Global}
use Rattle.std.specs.Str.{bytes_eq}
use Rattle.serde_json.specs.Data.{Data, null, boolean, number, string, array, object, Members, no_members, member, put}
use Rattle.serde_json.specs.View.{members_view}
use Rattle.serde_json.specs.declared.value.Value.{Value}
use Rattle.ev_tree.specs.Floats.{whole, plain_text}
use Rattle.ev_listener_json.specs.Chains.{has_api}

-- a member of this name is about filter chains
abbrev pub is_of_chains : List ℕ → Bool
is_of_chains name =
    bytes_eq name (codes "filter_chains")
    || bytes_eq name (codes "filterChains")
    || bytes_eq name (codes "default_filter_chain")
    || bytes_eq name (codes "defaultFilterChain")
    || bytes_eq name (codes "filter_chain_matcher")
    || bytes_eq name (codes "filterChainMatcher")

-- the other members
abbrev pub frame_members : Members → Members
frame_members no_members = no_members
frame_members (member name tree members) = if is_of_chains name then frame_members members else member name tree (frame_members members)

abbrev pub frame_of : Data → Data
frame_of null = null
frame_of (boolean b) = boolean b
frame_of (number n) = number n
frame_of (string s) = string s
frame_of (array items) = array items
frame_of (object members) = object (frame_members members)

-- its text
unfoldable pub frame_text_of : Data → List ℕ
frame_text_of tree = plain_text (frame_of tree)

-- The text that two listeners share where one may be in place of the other.
-- An API listener has none, since its filter chains aren't read: it is never in place.
abbrev pub in_place_text_of : Data → List ℕ
in_place_text_of tree = if has_api tree then [] else frame_text_of tree

-- the copy of a member came among others, unless it is about filter chains
abbrev pub PutsFrame : List (String Global × Value) → List (String Global × Value) → List ℕ → Data → Type 0
PutsFrame old new name tree = members_view new ≡ (if is_of_chains name then members_view old else put name (whole tree) (members_view old))
