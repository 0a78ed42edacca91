-- What reading a field of an object gives, by the proto3 JSON mapping in this project's profile: each
-- form is a function of the tree, for the readers' clauses and for the rules above alike.
use Rattle.std.specs.Prelude.{◌≡◌, ℕ, ℤ, List, [], Bool, true, false, if◌then◌else◌, Option, Some, None, is_some, option_and_then, unwrap_or, Result, Ok, Err, ⊤}
use Rattle.std.specs.List.{list_all}
use Rattle.std.specs.Str.{bytes_eq}
use denote.Ref.{Bor}
use Rattle.serde_json.specs.Data.{Data, null}
use Rattle.serde_json.specs.Find.{get, as_null, as_bool, as_str, as_object}
use Rattle.serde_json.specs.View.{view}
use Rattle.serde_json.specs.declared.value.Value.{Value}
use Rattle.ev_tree.specs.declared.outcome.Found.{Found}
use Rattle.ev_tree.specs.declared.outcome.Found.TheVariants.{Absent, Wrong, Given}
use Rattle.ev_tree.specs.declared.outcome.ReadError.{ReadError}
use Rattle.ev_tree.specs.declared.outcome.ReadError.TheVariants.{Rule, OutOfMemory}
use Rattle.ev_tree.specs.declared.span.Span.{Span}
use Rattle.ev_tree.specs.declared.tables.EnumTable.{EnumTable}
use Rattle.ev_tree.specs.Spelling.{camel_of}
use Rattle.ev_tree.specs.Scalars.{u32_in, i64_in, list_in, span_of, enum_in}

-- the same outcome, of what f makes of the value
abbrev pub found_map : {A B : Type 0} → (A → B) → Found A → Found B
found_map f Absent = Absent
found_map f Wrong = Wrong
found_map f (Given x) = Given (f x)

abbrev pub is_wrong : {A : Type 0} → Found A → Bool
is_wrong Absent = false
is_wrong Wrong = true
is_wrong (Given x) = false

abbrev pub is_given : {A : Type 0} → Found A → Bool
is_given Absent = false
is_given Wrong = false
is_given (Given x) = true

abbrev pub is_absent : {A : Type 0} → Found A → Bool
is_absent Absent = true
is_absent Wrong = false
is_absent (Given x) = false

-- the value that counts: the default where none is given
abbrev pub given_or : {A : Type 0} → A → Found A → A
given_or default Absent = default
given_or default Wrong = default
given_or default (Given x) = x

-- ---- a member by either spelling

-- `null` counts as absent
abbrev pub present_member : Option Data → Option Data
present_member found = option_and_then (λ d. if is_some (as_null d) then None else Some d) found

abbrev pub value_or_absent : Option Data → Found Data
value_or_absent None = Absent
value_or_absent (Some d) = Given d

-- the one that is there; both are the wrong form
abbrev pub either_spelling : Option Data → Option Data → Found Data
either_spelling None second = value_or_absent second
either_spelling (Some d) None = Given d
either_spelling (Some d) (Some e) = Wrong

-- a field of an object, by the name as it is written or in lowerCamelCase. What is no object has no fields.
unfoldable pub field_of : List ℕ → Data → Found Data
field_of name tree =
    if bytes_eq (camel_of name) name then value_or_absent (present_member (get name tree))
    else either_spelling (present_member (get name tree)) (present_member (get (camel_of name) tree))

-- ---- the forms of a field

-- a value that the form takes, or the wrong form
abbrev pub value_or_wrong : {A : Type 0} → Option A → Found A
value_or_wrong None = Wrong
value_or_wrong (Some x) = Given x

abbrev pub in_form : {A : Type 0} → (Data → Option A) → Found Data → Found A
in_form form Absent = Absent
in_form form Wrong = Wrong
in_form form (Given d) = value_or_wrong (form d)

abbrev pub object_in : Data → Option Data
object_in d = if is_some (as_object d) then Some d else None

abbrev pub is_object : Data → Bool
is_object d = is_some (as_object d)

abbrev pub is_text : Data → Bool
is_text d = is_some (as_str d)

-- an array of which each element is an object, or a text
abbrev pub objects_in : Data → Option (List Data)
objects_in d = option_and_then (λ ds. if list_all is_object ds then Some ds else None) (list_in d)

abbrev pub texts_in : Data → Option (List Data)
texts_in d = option_and_then (λ ds. if list_all is_text ds then Some ds else None) (list_in d)

unfoldable pub text_of : List ℕ → Data → Found (List ℕ)
text_of name tree = in_form as_str (field_of name tree)

unfoldable pub number_of : List ℕ → Data → Found ℕ
number_of name tree = in_form u32_in (field_of name tree)

unfoldable pub integer_of : List ℕ → Data → Found ℤ
integer_of name tree = in_form i64_in (field_of name tree)

unfoldable pub boolean_of : List ℕ → Data → Found Bool
boolean_of name tree = in_form as_bool (field_of name tree)

unfoldable pub duration_of : List ℕ → Data → Found Span
duration_of name tree = in_form (λ d. option_and_then span_of (as_str d)) (field_of name tree)

unfoldable pub object_of : List ℕ → Data → Found Data
object_of name tree = in_form object_in (field_of name tree)

unfoldable pub list_of : List ℕ → Data → Found (List Data)
list_of name tree = in_form list_in (field_of name tree)

unfoldable pub objects_of : List ℕ → Data → Found (List Data)
objects_of name tree = in_form objects_in (field_of name tree)

unfoldable pub texts_of : List ℕ → Data → Found (List Data)
texts_of name tree = in_form texts_in (field_of name tree)

unfoldable pub enumeration_of : List ℕ → EnumTable → Data → Found ℕ
enumeration_of name table tree = in_form (enum_in table) (field_of name tree)

-- ---- reading on

-- the tree that fields are looked up in: what isn't given has no fields
abbrev pub inside : Found Data → Data
inside Absent = null
inside Wrong = null
inside (Given d) = d

-- the elements that count: none where no list is given
abbrev pub listed : Found (List Data) → List Data
listed Absent = []
listed Wrong = []
listed (Given ds) = ds

-- the text of an element of a list of texts
abbrev pub text_in : Data → List ℕ
text_in d = unwrap_or (as_str d) []

-- A look finds an outcome: the same, of what each value is seen as.
pub record Shows {A B : Type 0} (seen : A → B) (found : Found A) (outcome : Found B) : Type 0 where
  pub value : found_map seen found ≡ outcome
  pub wrong : is_wrong found ≡ is_wrong outcome
  pub given : is_given found ≡ is_given outcome
  pub absent : is_absent found ≡ is_absent outcome

-- the tree of an object that may be missing
abbrev pub tree_of : Option (Bor Value) → Data
tree_of None = null
tree_of (Some v) = view v.now

-- A reader's answer says which outcome it is: a value, seen by `seen`, None where the field is absent,
-- and V6 where its form is wrong. Running out of memory says nothing.
abbrev pub Answers : {A B : Type 0} → (A → B) → Result (Option A) ReadError → Found B → Type 0
Answers seen (Ok None) found = found ≡ Absent
Answers seen (Ok (Some x)) found = found ≡ Given (seen x)
Answers seen (Err (Rule n)) found = (n ≡ 6) × (found ≡ Wrong)
Answers seen (Err OutOfMemory) found = ⊤

-- the answer that a reader gives of an outcome
abbrev pub answer_of : {A : Type 0} → Found A → Result (Option A) ReadError
answer_of Absent = Ok None
answer_of Wrong = Err (Rule 6)
answer_of (Given x) = Ok (Some x)
