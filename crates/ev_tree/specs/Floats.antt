-- Trees without floats. A float has no text in definitions, and no line reads its value:
-- -1 represents each, which is what a line reads of neither.
use Rattle.std.specs.Prelude.{◌≡◌, ℕ, List, [], false, negsuc}
use Rattle.serde_json.specs.Data.{Num, unsigned, negative, float, Data, null, boolean, number, string, array, object, Items, no_items, item, Members, no_members, member, depth}
use Rattle.serde_json.specs.Written.{has_float, compact_text}
use Rattle.ev_types.specs.declared.events.Profile.{Profile}
use Rattle.ev_types.specs.declared.events.Profile.TheVariants.{Own, Envoy}

-- a number, with -1 for a float
abbrev pub whole_number : Num → Num
whole_number (unsigned n) = unsigned n
whole_number (negative z) = negative z
whole_number (float x) = negative (negsuc 0)

-- a tree, with -1 for each float in it
abbrev mutual
  pub whole : Data → Data
  whole null = null
  whole (boolean b) = boolean b
  whole (number n) = number (whole_number n)
  whole (string s) = string s
  whole (array ds) = array (whole_items ds)
  whole (object ms) = object (whole_members ms)

  pub whole_items : Items → Items
  whole_items no_items = no_items
  whole_items (item d ds) = item (whole d) (whole_items ds)

  pub whole_members : Members → Members
  whole_members no_members = no_members
  whole_members (member k d ms) = member k (whole d) (whole_members ms)

-- a tree without floats, as deep as another, which is it where it has none
pub record IsWholeOf (tree made : Data) : Type 0 where
  pub none : has_float made ≡ false
  pub deep : depth made ≡ depth tree
  pub same : has_float tree ≡ false → made ≡ tree

-- with -1 for each float a tree is one
abbrev pub MakesWhole : Type 0
MakesWhole = (tree : Data) → IsWholeOf tree (whole tree)

-- the plain text of a tree: without spaces, with -1 for each float
abbrev pub plain_text : Data → List ℕ
plain_text tree = compact_text (whole tree)

-- the text of a body, by which any change of it is told;
-- this project's own rules look at the fields that are read alone
abbrev pub body_text_of : Profile → Data → List ℕ
body_text_of Own tree = []
body_text_of Envoy tree = plain_text tree
