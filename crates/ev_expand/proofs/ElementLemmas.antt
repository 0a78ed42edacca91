-- How many elements the arrays of a tree have together: the text of the tree has a byte for each.
use Rattle.std.proofs.Common.{◌≡◌, ℕ, ◌+◌, ◌≤◌, ◌++◌, ◌∷◌, Bool, true, false, cond, List, length, IfSome, Option, None, Some, Ordering, Less, Equal, Greater, refl, arith, length-append}
use Rattle.std.specs.List.{list_all}
use Rattle.std.specs.Ordering.{match_ordering, nat_cmp}
use Rattle.std.specs.Cmp.Lexicographic.{slice_cmp}
use Rattle.std.specs.Prelude.{is_some}
use Rattle.std.specs.Str.{bytes_eq}
use Rattle.json.specs.Print.{quoted}
use Rattle.serde_json.specs.Data.{Data, null, boolean, number, string, array, object, Items, no_items, item, Members, no_members, member}
use Rattle.serde_json.specs.Find.{get, get_member, as_null}
use Rattle.serde_json.specs.Written.{comma_if, compact_text, items_text, members_text}
use Rattle.ev_tree.specs.declared.outcome.Found.{Found}
use Rattle.ev_tree.specs.declared.outcome.Found.TheVariants.{Absent, Wrong, Given}
use Rattle.ev_tree.specs.Forms.{present_member, value_or_absent, either_spelling, field_of, in_form, value_or_wrong, is_object, objects_in, objects_of, listed}
use Rattle.ev_tree.specs.Scalars.{elements_of, list_in}
use Rattle.ev_tree.specs.Spelling.{camel_of}
use Rattle.ev_tree.specs.Floats.{whole, whole_items, whole_members}

-- the elements of the arrays in a tree
abbrev mutual
  pub elements : Data → ℕ
  elements null = 0
  elements (boolean b) = 0
  elements (number n) = 0
  elements (string s) = 0
  elements (array ds) = items_elements ds
  elements (object ms) = members_elements ms

  pub items_elements : Items → ℕ
  items_elements no_items = 0
  items_elements (item d ds) = elements d + items_elements ds + 1

  pub members_elements : Members → ℕ
  members_elements no_members = 0
  members_elements (member k d ms) = elements d + members_elements ms

-- ---- the text has a byte for each

mutual
  pub text_elements : (d : Data) → elements d ≤ length (compact_text d)
  text_elements null = omega arith
  text_elements (boolean b) = omega arith
  text_elements (number n) = omega arith
  text_elements (string s) = omega arith
  text_elements (array ds) = omega (arith, items_first ds)
  text_elements (object ms) = omega (arith, members_there false ms)

  items_first : (ds : Items) → items_elements ds ≤ length (items_text false ds)
  items_first no_items = omega arith
  items_first (item d ds) = omega (arith, length-append (compact_text d) (items_text true ds), text_elements d, items_later ds)

  items_later : (ds : Items) → items_elements ds + 1 ≤ length (items_text true ds)
  items_later no_items = omega arith
  items_later (item d ds) = omega (arith, length-append (compact_text d) (items_text true ds), text_elements d, items_later ds)

  members_there : (later : Bool) (ms : Members) → members_elements ms ≤ length (members_text later ms)
  members_there later no_members = omega arith
  members_there later (member k d ms) =
      omega (
        arith,
        length-append (comma_if later) (quoted k ++ 58 ∷ (compact_text d ++ members_text true ms)),
        length-append (quoted k) (58 ∷ (compact_text d ++ members_text true ms)),
        length-append (compact_text d) (members_text true ms),
        text_elements d,
        members_there true ms,
      )

-- floats are no elements
mutual
  pub whole_elements : (d : Data) → elements (whole d) ≡ elements d
  whole_elements null = refl
  whole_elements (boolean b) = refl
  whole_elements (number n) = refl
  whole_elements (string s) = refl
  whole_elements (array ds) = items_whole ds
  whole_elements (object ms) = members_whole ms

  items_whole : (ds : Items) → items_elements (whole_items ds) ≡ items_elements ds
  items_whole no_items = refl
  items_whole (item d ds) = omega (arith, whole_elements d, items_whole ds)

  members_whole : (ms : Members) → members_elements (whole_members ms) ≡ members_elements ms
  members_whole no_members = refl
  members_whole (member k d ms) = omega (arith, whole_elements d, members_whole ms)

-- ---- what is found in a tree has no more

-- a tree with at most that many
abbrev pub HasAtMost : ℕ → Data → Type 0
HasAtMost n d = elements d ≤ n

-- it holds of the value that is given
abbrev pub IfGiven : {A : Type 0} → (A → Type 0) → Found A → Type 0
IfGiven P Absent = Unit {0}
IfGiven P Wrong = Unit {0}
IfGiven P (Given d) = P d

more : (n m : ℕ) (found : Option Data) → n ≤ m → IfSome found (HasAtMost n) → IfSome found (HasAtMost m)
more n m None less h = tt
more n m (Some d) less h = omega (arith, less, h)

by_order : (o : Ordering) (n : ℕ) (here rest : Option Data) → IfSome here (HasAtMost n) → IfSome rest (HasAtMost n) → IfSome (match_ordering o rest here rest) (HasAtMost n)
by_order Less n here rest h k = k
by_order Equal n here rest h k = h
by_order Greater n here rest h k = k

member_elements : (key : List ℕ) (ms : Members) → IfSome (get_member key ms) (HasAtMost (members_elements ms))
member_elements key no_members = tt
member_elements key (member k d ms) =
    by_order (slice_cmp nat_cmp key k) (members_elements (member k d ms)) (Some d) (get_member key ms) (omega arith)
    (more (members_elements ms) (members_elements (member k d ms)) (get_member key ms) (omega arith) (member_elements key ms))

pub get_elements : (key : List ℕ) (tree : Data) → IfSome (get key tree) (HasAtMost (elements tree))
get_elements key null = tt
get_elements key (boolean b) = tt
get_elements key (number n) = tt
get_elements key (string s) = tt
get_elements key (array ds) = tt
get_elements key (object ms) = member_elements key ms

unless : (b : Bool) (n : ℕ) (d : Data) → HasAtMost n d → IfSome (cond b None (Some d)) (HasAtMost n)
unless true n d h = tt
unless false n d h = h

present : (n : ℕ) (found : Option Data) → IfSome found (HasAtMost n) → IfSome (present_member found) (HasAtMost n)
present n None h = tt
present n (Some d) h = unless (is_some (as_null d)) n d h

given : (n : ℕ) (found : Option Data) → IfSome found (HasAtMost n) → IfGiven (HasAtMost n) (value_or_absent found)
given n None h = tt
given n (Some d) h = h

one_of : (n : ℕ) (first second : Option Data) → IfSome first (HasAtMost n) → IfSome second (HasAtMost n) → IfGiven (HasAtMost n) (either_spelling first second)
one_of n None second h k = given n second k
one_of n (Some d) None h k = h
one_of n (Some d) (Some e) h k = tt

by_test : (b : Bool) (n : ℕ) (first second : Found Data) → IfGiven (HasAtMost n) first → IfGiven (HasAtMost n) second → IfGiven (HasAtMost n) (cond b first second)
by_test true n first second h k = h
by_test false n first second h k = k

pub field_elements : (name : List ℕ) (tree : Data) → IfGiven (HasAtMost (elements tree)) (field_of name tree)
unfolding field_of
field_elements name tree =
    let n : ℕ = elements tree in
    let own : IfSome (present_member (get name tree)) (HasAtMost n) = present n (get name tree) (get_elements name tree) in
    by_test (bytes_eq (camel_of name) name) n (value_or_absent (present_member (get name tree))) (either_spelling (present_member (get name tree)) (present_member (get (camel_of name) tree)))
    (given n (present_member (get name tree)) own)
    (one_of n (present_member (get name tree)) (present_member (get (camel_of name) tree)) own (present n (get (camel_of name) tree) (get_elements (camel_of name) tree)))

-- ---- lists

items_count : (ds : Items) → length (elements_of ds) ≤ items_elements ds
items_count no_items = omega arith
items_count (item d ds) = omega (arith, items_count ds)

-- a list that is no longer than this
abbrev IsShort : ℕ → List Data → Type 0
IsShort n ds = length ds ≤ n

if_all : (b : Bool) (n : ℕ) (ds : List Data) → IsShort n ds → IfSome (cond b (Some ds) None) (IsShort n)
if_all true n ds h = h
if_all false n ds h = tt

objects_short : (d : Data) → IfSome (objects_in d) (IsShort (elements d))
unfolding list_in
objects_short null = tt
objects_short (boolean b) = tt
objects_short (number n) = tt
objects_short (string s) = tt
objects_short (array ds) = if_all (list_all is_object (elements_of ds)) (items_elements ds) (elements_of ds) (items_count ds)
objects_short (object ms) = tt

listed_short : (n m : ℕ) (found : Option (List Data)) → m ≤ n → IfSome found (IsShort m) → length (listed (value_or_wrong found)) ≤ n
listed_short n m None less h = omega arith
listed_short n m (Some ds) less h = omega (arith, less, h)

all_listed : (n : ℕ) (found : Found Data) → IfGiven (HasAtMost n) found → length (listed (in_form objects_in found)) ≤ n
all_listed n Absent h = omega arith
all_listed n Wrong h = omega arith
all_listed n (Given d) h = listed_short n (elements d) (objects_in d) h (objects_short d)

-- the objects that a field lists are no more than the elements of the tree
pub objects_count : (name : List ℕ) (tree : Data) → length (listed (objects_of name tree)) ≤ elements tree
unfolding objects_of
objects_count name tree = all_listed (elements tree) (field_of name tree) (field_elements name tree)
