-- The forms of fields.
use Rattle.std.proofs.Common.{◌≡◌, ℕ, List, [], map, Bool, true, false, cond, Option, None, Some, is_some, option_map, option_and_then, refl, ap, ◌∙◌}
use Rattle.std.specs.Prelude.{unwrap_or}
use Rattle.std.specs.List.{list_all}
use Rattle.std.specs.Str.{bytes_eq}
use Rattle.serde_json.specs.Data.{Num, unsigned, negative, float, Data, null, boolean, number, string, array, object, Items}
use Rattle.serde_json.specs.Find.{get, as_bool, as_str, as_array}
use Rattle.ev_tree.specs.declared.outcome.Found.{Found}
use Rattle.ev_tree.specs.declared.outcome.Found.TheVariants.{Absent, Wrong, Given}
use Rattle.ev_tree.specs.declared.span.Span.{Span}
use Rattle.ev_tree.specs.declared.tables.EnumTable.{EnumTable}
use Rattle.ev_tree.specs.Spelling.{camel_of}
use Rattle.ev_tree.specs.Scalars.{u32_in, i64_in, list_in, elements_of, span_of, enum_in}
use Rattle.ev_tree.specs.Forms.{found_map, is_wrong, is_given, is_absent, inside, listed, present_member, value_or_absent, either_spelling, field_of, value_or_wrong, in_form, object_in, is_object, is_text, objects_in, texts_in, text_of, number_of, integer_of, boolean_of, duration_of, object_of, list_of, objects_of, texts_of, enumeration_of, text_in}
use Rattle.ev_tree.specs.Floats.{whole, whole_items}
use Rattle.ev_whole_laws.proofs.Parts.{is_wrong-map, is_given-map, is_absent-map, inside-map, listed-map, get-whole, as_bool-whole, as_str-whole, as_array-whole, elements_of-whole, list_all-whole}

-- ---- single values

number_in : (n : Num) → u32_in (whole (number n)) ≡ u32_in (number n)
unfolding u32_in
number_in (unsigned n) = refl
number_in (negative z) = refl
number_in (float x) = refl

pub u32_in-whole : (tree : Data) → u32_in (whole tree) ≡ u32_in tree
unfolding u32_in
u32_in-whole null = refl
u32_in-whole (boolean b) = refl
u32_in-whole (number n) = number_in n
u32_in-whole (string s) = refl
u32_in-whole (array ds) = refl
u32_in-whole (object ms) = refl

integer_in : (n : Num) → i64_in (whole (number n)) ≡ i64_in (number n)
unfolding i64_in
integer_in (unsigned n) = refl
integer_in (negative z) = refl
integer_in (float x) = refl

i64_in-whole : (tree : Data) → i64_in (whole tree) ≡ i64_in tree
unfolding i64_in
i64_in-whole null = refl
i64_in-whole (boolean b) = refl
i64_in-whole (number n) = integer_in n
i64_in-whole (string s) = refl
i64_in-whole (array ds) = refl
i64_in-whole (object ms) = refl

listed_number : (table : EnumTable) (n : Num) → enum_in table (whole (number n)) ≡ enum_in table (number n)
unfolding enum_in
listed_number table (unsigned n) = refl
listed_number table (negative z) = refl
listed_number table (float x) = refl

pub enum_in-whole : (table : EnumTable) (tree : Data) → enum_in table (whole tree) ≡ enum_in table tree
unfolding enum_in
enum_in-whole table null = refl
enum_in-whole table (boolean b) = refl
enum_in-whole table (number n) = listed_number table n
enum_in-whole table (string s) = refl
enum_in-whole table (array ds) = refl
enum_in-whole table (object ms) = refl

items_in : (found : Option Items) → option_map elements_of (option_map whole_items found) ≡ option_map (map whole) (option_map elements_of found)
items_in None = refl
items_in (Some ds) = ap Some (elements_of-whole ds)

pub list_in-whole : (tree : Data) → list_in (whole tree) ≡ option_map (map whole) (list_in tree)
unfolding list_in
list_in-whole tree = ap (option_map elements_of) (as_array-whole tree) ∙ items_in (as_array tree)

-- ---- fields

present : (found : Option Data) → present_member (option_map whole found) ≡ option_map whole (present_member found)
present None = refl
present (Some null) = refl
present (Some (boolean b)) = refl
present (Some (number n)) = refl
present (Some (string s)) = refl
present (Some (array ds)) = refl
present (Some (object ms)) = refl

pub present_member-whole : (name : List ℕ) (tree : Data) → present_member (get name (whole tree)) ≡ option_map whole (present_member (get name tree))
present_member-whole name tree = ap present_member (get-whole name tree) ∙ present (get name tree)

absent : (found : Option Data) → value_or_absent (option_map whole found) ≡ found_map whole (value_or_absent found)
absent None = refl
absent (Some d) = refl

either : (first second : Option Data) → either_spelling (option_map whole first) (option_map whole second) ≡ found_map whole (either_spelling first second)
either None second = absent second
either (Some d) None = refl
either (Some d) (Some e) = refl

pub field_of-whole : (name : List ℕ) (tree : Data) → field_of name (whole tree) ≡ found_map whole (field_of name tree)
unfolding field_of
field_of-whole name tree =
    (λ i. cond (bytes_eq (camel_of name) name) (value_or_absent (present_member-whole name tree i))
    (either_spelling (present_member-whole name tree i) (present_member-whole (camel_of name) tree i)))
    ∙ by_test (bytes_eq (camel_of name) name)
  where
    by_test : (test : Bool)
        → cond test (value_or_absent (option_map whole (present_member (get name tree))))
        (either_spelling (option_map whole (present_member (get name tree))) (option_map whole (present_member (get (camel_of name) tree))))
        ≡ found_map whole (cond test (value_or_absent (present_member (get name tree))) (either_spelling (present_member (get name tree)) (present_member (get (camel_of name) tree))))
    by_test true = absent (present_member (get name tree))
    by_test false = either (present_member (get name tree)) (present_member (get (camel_of name) tree))

-- ---- the forms of a field

same_given : {A : Type 0} (form : Data → Option A) → ((tree : Data) → form (whole tree) ≡ form tree) → (found : Found Data) → in_form form (found_map whole found) ≡ in_form form found
same_given form same Absent = refl
same_given form same Wrong = refl
same_given form same (Given d) = ap value_or_wrong (same d)

part_or_wrong : {A B : Type 0} (f : A → B) (o : Option A) → value_or_wrong (option_map f o) ≡ found_map f (value_or_wrong o)
part_or_wrong f None = refl
part_or_wrong f (Some x) = refl

part_given : {A : Type 0} (form : Data → Option A) (f : A → A) → ((tree : Data) → form (whole tree) ≡ option_map f (form tree)) → (found : Found Data)
    → in_form form (found_map whole found) ≡ found_map f (in_form form found)
part_given form f part Absent = refl
part_given form f part Wrong = refl
part_given form f part (Given d) = ap value_or_wrong (part d) ∙ part_or_wrong f (form d)

pub object_in-whole : (tree : Data) → object_in (whole tree) ≡ option_map whole (object_in tree)
object_in-whole null = refl
object_in-whole (boolean b) = refl
object_in-whole (number n) = refl
object_in-whole (string s) = refl
object_in-whole (array ds) = refl
object_in-whole (object ms) = refl

pub is_object-whole : (tree : Data) → is_object (whole tree) ≡ is_object tree
is_object-whole null = refl
is_object-whole (boolean b) = refl
is_object-whole (number n) = refl
is_object-whole (string s) = refl
is_object-whole (array ds) = refl
is_object-whole (object ms) = refl

pub is_text-whole : (tree : Data) → is_text (whole tree) ≡ is_text tree
is_text-whole tree = λ i. is_some (as_str-whole tree i)

all_in : (test : Data → Bool) → ((tree : Data) → test (whole tree) ≡ test tree) → (found : Option (List Data))
    → option_and_then (λ (ds : List Data). cond (list_all test ds) (Some ds) None) (option_map (map whole) found)
    ≡ option_map (map whole) (option_and_then (λ (ds : List Data). cond (list_all test ds) (Some ds) None) found)
all_in test same None = refl
all_in test same (Some ds) = ap (λ (b : Bool). cond b (Some (map whole ds)) None) (list_all-whole test same ds) ∙ by_test (list_all test ds)
  where
    by_test : (b : Bool) → cond b (Some (map whole ds)) None ≡ option_map (map whole) (cond b (Some ds) None)
    by_test true = refl
    by_test false = refl

pub objects_in-whole : (tree : Data) → objects_in (whole tree) ≡ option_map (map whole) (objects_in tree)
objects_in-whole tree = ap (option_and_then (λ (ds : List Data). cond (list_all is_object ds) (Some ds) None)) (list_in-whole tree) ∙ all_in is_object is_object-whole (list_in tree)

pub texts_in-whole : (tree : Data) → texts_in (whole tree) ≡ option_map (map whole) (texts_in tree)
texts_in-whole tree = ap (option_and_then (λ (ds : List Data). cond (list_all is_text ds) (Some ds) None)) (list_in-whole tree) ∙ all_in is_text is_text-whole (list_in tree)

pub text_of-whole : (name : List ℕ) (tree : Data) → text_of name (whole tree) ≡ text_of name tree
unfolding text_of
text_of-whole name tree = ap (in_form as_str) (field_of-whole name tree) ∙ same_given as_str as_str-whole (field_of name tree)

pub number_of-whole : (name : List ℕ) (tree : Data) → number_of name (whole tree) ≡ number_of name tree
unfolding number_of
number_of-whole name tree = ap (in_form u32_in) (field_of-whole name tree) ∙ same_given u32_in u32_in-whole (field_of name tree)

pub integer_of-whole : (name : List ℕ) (tree : Data) → integer_of name (whole tree) ≡ integer_of name tree
unfolding integer_of
integer_of-whole name tree = ap (in_form i64_in) (field_of-whole name tree) ∙ same_given i64_in i64_in-whole (field_of name tree)

pub boolean_of-whole : (name : List ℕ) (tree : Data) → boolean_of name (whole tree) ≡ boolean_of name tree
unfolding boolean_of
boolean_of-whole name tree = ap (in_form as_bool) (field_of-whole name tree) ∙ same_given as_bool as_bool-whole (field_of name tree)

span_in : Data → Option Span
span_in tree = option_and_then span_of (as_str tree)

pub duration_of-whole : (name : List ℕ) (tree : Data) → duration_of name (whole tree) ≡ duration_of name tree
unfolding duration_of span_in
duration_of-whole name tree = ap (in_form span_in) (field_of-whole name tree) ∙ same_given span_in (λ d i. option_and_then span_of (as_str-whole d i)) (field_of name tree)

pub object_of-whole : (name : List ℕ) (tree : Data) → object_of name (whole tree) ≡ found_map whole (object_of name tree)
unfolding object_of
object_of-whole name tree = ap (in_form object_in) (field_of-whole name tree) ∙ part_given object_in whole object_in-whole (field_of name tree)

pub list_of-whole : (name : List ℕ) (tree : Data) → list_of name (whole tree) ≡ found_map (map whole) (list_of name tree)
unfolding list_of
list_of-whole name tree = ap (in_form list_in) (field_of-whole name tree) ∙ part_given list_in (map whole) list_in-whole (field_of name tree)

pub objects_of-whole : (name : List ℕ) (tree : Data) → objects_of name (whole tree) ≡ found_map (map whole) (objects_of name tree)
unfolding objects_of
objects_of-whole name tree = ap (in_form objects_in) (field_of-whole name tree) ∙ part_given objects_in (map whole) objects_in-whole (field_of name tree)

pub texts_of-whole : (name : List ℕ) (tree : Data) → texts_of name (whole tree) ≡ found_map (map whole) (texts_of name tree)
unfolding texts_of
texts_of-whole name tree = ap (in_form texts_in) (field_of-whole name tree) ∙ part_given texts_in (map whole) texts_in-whole (field_of name tree)

pub enumeration_of-whole : (name : List ℕ) (table : EnumTable) (tree : Data) → enumeration_of name table (whole tree) ≡ enumeration_of name table tree
unfolding enumeration_of
enumeration_of-whole name table tree = ap (in_form (enum_in table)) (field_of-whole name tree) ∙ same_given (enum_in table) (enum_in-whole table) (field_of name tree)

pub text_in-whole : (tree : Data) → text_in (whole tree) ≡ text_in tree
text_in-whole tree = λ i. unwrap_or (as_str-whole tree i) []

-- ---- what is known of a field that is a part, and what is in it

pub object-is_wrong : (name : List ℕ) (tree : Data) → is_wrong (object_of name (whole tree)) ≡ is_wrong (object_of name tree)
object-is_wrong name tree = ap is_wrong (object_of-whole name tree) ∙ is_wrong-map whole (object_of name tree)

pub object-is_given : (name : List ℕ) (tree : Data) → is_given (object_of name (whole tree)) ≡ is_given (object_of name tree)
object-is_given name tree = ap is_given (object_of-whole name tree) ∙ is_given-map whole (object_of name tree)

pub object-is_absent : (name : List ℕ) (tree : Data) → is_absent (object_of name (whole tree)) ≡ is_absent (object_of name tree)
object-is_absent name tree = ap is_absent (object_of-whole name tree) ∙ is_absent-map whole (object_of name tree)

pub inside-object : (name : List ℕ) (tree : Data) → inside (object_of name (whole tree)) ≡ whole (inside (object_of name tree))
inside-object name tree = ap inside (object_of-whole name tree) ∙ inside-map (object_of name tree)

pub field-is_wrong : (name : List ℕ) (tree : Data) → is_wrong (field_of name (whole tree)) ≡ is_wrong (field_of name tree)
field-is_wrong name tree = ap is_wrong (field_of-whole name tree) ∙ is_wrong-map whole (field_of name tree)

pub field-is_given : (name : List ℕ) (tree : Data) → is_given (field_of name (whole tree)) ≡ is_given (field_of name tree)
field-is_given name tree = ap is_given (field_of-whole name tree) ∙ is_given-map whole (field_of name tree)

pub field-is_absent : (name : List ℕ) (tree : Data) → is_absent (field_of name (whole tree)) ≡ is_absent (field_of name tree)
field-is_absent name tree = ap is_absent (field_of-whole name tree) ∙ is_absent-map whole (field_of name tree)

pub objects-is_wrong : (name : List ℕ) (tree : Data) → is_wrong (objects_of name (whole tree)) ≡ is_wrong (objects_of name tree)
objects-is_wrong name tree = ap is_wrong (objects_of-whole name tree) ∙ is_wrong-map (map whole) (objects_of name tree)

pub listed-objects : (name : List ℕ) (tree : Data) → listed (objects_of name (whole tree)) ≡ map whole (listed (objects_of name tree))
listed-objects name tree = ap listed (objects_of-whole name tree) ∙ listed-map (objects_of name tree)

pub texts-is_wrong : (name : List ℕ) (tree : Data) → is_wrong (texts_of name (whole tree)) ≡ is_wrong (texts_of name tree)
texts-is_wrong name tree = ap is_wrong (texts_of-whole name tree) ∙ is_wrong-map (map whole) (texts_of name tree)

pub listed-texts : (name : List ℕ) (tree : Data) → listed (texts_of name (whole tree)) ≡ map whole (listed (texts_of name tree))
listed-texts name tree = ap listed (texts_of-whole name tree) ∙ listed-map (texts_of name tree)
