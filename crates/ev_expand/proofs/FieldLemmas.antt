-- Fields of an object, with a member put in or left out.
use Rattle.std.proofs.Common.{◌≡◌, ◌∙◌, ℕ, Bool, true, false, true≢false, cond, List, Option, Some, None, Ordering, Less, Equal, Greater, refl, sym, ap}
use Rattle.std.specs.Ordering.{match_ordering, nat_cmp, is_eq}
use Rattle.std.specs.Cmp.Lexicographic.{slice_cmp}
use Rattle.std.specs.Str.{bytes_eq}
use Rattle.serde_json.specs.Data.{Data, null, boolean, number, string, array, object, Members, no_members, member}
use Rattle.serde_json.specs.Find.{get, get_member}
use Rattle.std.proofs.lemmas.Map.Text.{is_eq-slice_cmp}
use Rattle.serde_json.proofs.Views.{get_member-put, get_member-put_other}
use Rattle.ev_types.specs.Same.{bytes_decide}
use Rattle.ev_tree.specs.Spelling.{camel_of}
use Rattle.ev_tree.specs.Forms.{is_object, present_member, value_or_absent, either_spelling, field_of, in_form, text_of, duration_of, object_of, objects_of, texts_of}
use Rattle.ev_expand.specs.Editing.{members_without, without, with_value}

-- ---- members

-- two names
pub apart : (a b : List ℕ) → bytes_eq a b ≡ false → a ≡ b → ⊥
apart a b other same = true≢false (sym ((bytes_decide a b).1 same) ∙ other)

pub get_with : (name : List ℕ) (value tree : Data) → is_object tree ≡ true → get name (with_value name value tree) ≡ Some value
get_with name value null h = absurd (cc)
get_with name value (boolean b) h = absurd (cc)
get_with name value (number n) h = absurd (cc)
get_with name value (string s) h = absurd (cc)
get_with name value (array ds) h = absurd (cc)
get_with name value (object ms) h = get_member-put name value ms

pub get_with_other : (other name : List ℕ) (value tree : Data) → bytes_eq other name ≡ false → get other (with_value name value tree) ≡ get other tree
get_with_other other name value null h = refl
get_with_other other name value (boolean b) h = refl
get_with_other other name value (number n) h = refl
get_with_other other name value (string s) h = refl
get_with_other other name value (array ds) h = refl
get_with_other other name value (object ms) h = get_member-put_other other name value ms (apart other name h)

either_way : (o : Ordering) (a b : Option Data) → is_eq o ≡ false → match_ordering o a b a ≡ a
either_way Less a b e = refl
either_way Equal a b e = absurd (true≢false e)
either_way Greater a b e = refl

-- a member of another name is passed over
passes : (q k : List ℕ) (d : Data) (ms : Members) → bytes_eq q k ≡ false → get_member q (member k d ms) ≡ get_member q ms
passes q k d ms h = either_way (slice_cmp nat_cmp q k) _ _ (is_eq-slice_cmp q k ∙ h)

none_left_by : (b : Bool) (name key : List ℕ) (d : Data) (ms : Members) → bytes_eq name key ≡ b → get_member name ms ≡ None → get_member name (cond b ms (member key d ms)) ≡ None
none_left_by true name key d ms is none = none
none_left_by false name key d ms is none = passes name key d ms is ∙ none

none_left : (name : List ℕ) (ms : Members) → get_member name (members_without name ms) ≡ None
none_left name no_members = refl
none_left name (member key d ms) = none_left_by (bytes_eq name key) name key d (members_without name ms) refl (none_left name ms)

others_left_by : (b : Bool) (other name key : List ℕ) (d : Data) (ms kept : Members) → bytes_eq name key ≡ b → bytes_eq other name ≡ false → get_member other kept ≡ get_member other ms
    → get_member other (cond b kept (member key d kept)) ≡ get_member other (member key d ms)
others_left_by true other name key d ms kept is h same =
    let keys : name ≡ key = (bytes_decide name key).0 is in
    same ∙ sym (passes other key d ms (ap (bytes_eq other) (sym keys) ∙ h))
others_left_by false other name key d ms kept is h same = ap (λ r. match_ordering (slice_cmp nat_cmp other key) r (Some d) r) same

others_left : (other name : List ℕ) (ms : Members) → bytes_eq other name ≡ false → get_member other (members_without name ms) ≡ get_member other ms
others_left other name no_members h = refl
others_left other name (member key d ms) h = others_left_by (bytes_eq name key) other name key d ms (members_without name ms) refl h (others_left other name ms h)

pub get_without : (name : List ℕ) (tree : Data) → get name (without name tree) ≡ None
get_without name null = refl
get_without name (boolean b) = refl
get_without name (number n) = refl
get_without name (string s) = refl
get_without name (array ds) = refl
get_without name (object ms) = none_left name ms

pub get_without_other : (other name : List ℕ) (tree : Data) → bytes_eq other name ≡ false → get other (without name tree) ≡ get other tree
get_without_other other name null h = refl
get_without_other other name (boolean b) h = refl
get_without_other other name (number n) h = refl
get_without_other other name (string s) h = refl
get_without_other other name (array ds) h = refl
get_without_other other name (object ms) h = others_left other name ms h

-- ---- fields

-- a field that is none of this name, in either spelling
pub record IsOther (field name : List ℕ) : Type 0 where
  pub plain : bytes_eq field name ≡ false
  pub camel : bytes_eq (camel_of field) name ≡ false

-- a field is found alike where its two spellings are
pub field_by : (field : List ℕ) (tree made : Data) → get field made ≡ get field tree → get (camel_of field) made ≡ get (camel_of field) tree → field_of field made ≡ field_of field tree
unfolding field_of
field_by field tree made plain camel = λ i.
    cond (bytes_eq (camel_of field) field) (value_or_absent (present_member (plain i))) (either_spelling (present_member (plain i)) (present_member (camel i)))

pub field_with_other : (field name : List ℕ) (value tree : Data) → IsOther field name → field_of field (with_value name value tree) ≡ field_of field tree
field_with_other field name value tree is =
    field_by field tree (with_value name value tree) (get_with_other field name value tree is.plain) (get_with_other (camel_of field) name value tree is.camel)

pub field_without_other : (field name : List ℕ) (tree : Data) → IsOther field name → field_of field (without name tree) ≡ field_of field tree
field_without_other field name tree is =
    field_by field tree (without name tree) (get_without_other field name tree is.plain) (get_without_other (camel_of field) name tree is.camel)

-- a field that was put in, of a name with one spelling
pub field_with : (name : List ℕ) (value tree : Data) → bytes_eq (camel_of name) name ≡ true → is_object tree ≡ true
    → field_of name (with_value name value tree) ≡ value_or_absent (present_member (Some value))
unfolding field_of
field_with name value tree one is = λ i.
    cond (one i) (value_or_absent (present_member (get_with name value tree is i))) (either_spelling (present_member (get name (with_value name value tree))) (present_member (get (camel_of name) (with_value name value tree))))

-- ---- forms of fields

-- a field that is found alike is found alike in each form
pub text_by : (field : List ℕ) (tree made : Data) → field_of field made ≡ field_of field tree → text_of field made ≡ text_of field tree
unfolding text_of
text_by field tree made same = ap (in_form _) same

pub duration_by : (field : List ℕ) (tree made : Data) → field_of field made ≡ field_of field tree → duration_of field made ≡ duration_of field tree
unfolding duration_of
duration_by field tree made same = ap (in_form _) same

pub object_by : (field : List ℕ) (tree made : Data) → field_of field made ≡ field_of field tree → object_of field made ≡ object_of field tree
unfolding object_of
object_by field tree made same = ap (in_form _) same

pub objects_by : (field : List ℕ) (tree made : Data) → field_of field made ≡ field_of field tree → objects_of field made ≡ objects_of field tree
unfolding objects_of
objects_by field tree made same = ap (in_form _) same

pub texts_by : (field : List ℕ) (tree made : Data) → field_of field made ≡ field_of field tree → texts_of field made ≡ texts_of field tree
unfolding texts_of
texts_by field tree made same = ap (in_form _) same

-- ---- objects

pub object_with : (name : List ℕ) (value tree : Data) → is_object (with_value name value tree) ≡ is_object tree
object_with name value null = refl
object_with name value (boolean b) = refl
object_with name value (number n) = refl
object_with name value (string s) = refl
object_with name value (array ds) = refl
object_with name value (object ms) = refl

pub object_without : (name : List ℕ) (tree : Data) → is_object (without name tree) ≡ is_object tree
object_without name null = refl
object_without name (boolean b) = refl
object_without name (number n) = refl
object_without name (string s) = refl
object_without name (array ds) = refl
object_without name (object ms) = refl
