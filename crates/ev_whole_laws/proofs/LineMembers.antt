-- Members of the objects that lines are.
use Rattle.std.proofs.Common.{◌≡◌, ℕ, ◌&&◌, List, [], ◌∷◌, Bool, cond, length, nat_le, Option, None, Some, is_some, option_map, option_and_then, codes, refl, ap, ◌∙◌}
use Rattle.std.specs.List.{list_any}
use Rattle.std.specs.Str.{bytes_eq, str_to_ascii_lowercase}
use Rattle.serde_json.specs.Data.{Data, null, boolean, number, string, array, object, Items, no_items, item, Members, no_members, member}
use Rattle.serde_json.specs.Find.{get, as_str, as_array, as_object}
use Rattle.ev_types.specs.declared.limits.TheConstants.{MAX_NAME_LENGTH}
use Rattle.ev_script.specs.Members.{names_only, has_only, whole_within, text_within, name_of, texts_of, texts_in, or_default, member_of, member_or}
use Rattle.ev_script.specs.Headers.{Headers, with_header, headers_with, headers_of}
use Rattle.ev_script.specs.Faults.{has_format}
use Rattle.ev_tree.specs.Floats.{whole, whole_items, whole_members}
use Rattle.ev_whole_laws.proofs.Parts.{get-whole, as_str-whole, as_u64-whole, as_array-whole, as_object-whole, is_some-map, and_then-same, and_then-by}

names_only-whole : (names : List (List ℕ)) (members : Members) → names_only names (whole_members members) ≡ names_only names members
names_only-whole names no_members = refl
names_only-whole names (member name d members) = ap (λ (b : Bool). list_any (bytes_eq name) names && b) (names_only-whole names members)

pub has_only-whole : (names : List (List ℕ)) (tree : Data) → has_only names (whole tree) ≡ has_only names tree
has_only-whole names null = refl
has_only-whole names (boolean b) = refl
has_only-whole names (number n) = refl
has_only-whole names (string s) = refl
has_only-whole names (array values) = refl
has_only-whole names (object members) = names_only-whole names members

pub whole_within-whole : (low high : ℕ) (tree : Data) → whole_within low high (whole tree) ≡ whole_within low high tree
whole_within-whole low high tree = λ i. option_and_then (λ (n : ℕ). cond (nat_le low n && nat_le n high) (Some n) None) (as_u64-whole tree i)

pub text_within-whole : (low high : ℕ) (tree : Data) → text_within low high (whole tree) ≡ text_within low high tree
text_within-whole low high tree =
    λ i. option_and_then (λ (text : List ℕ). cond (nat_le low (length text) && nat_le (length text) high) (Some text) None) (as_str-whole tree i)

pub name_of-whole : (tree : Data) → name_of (whole tree) ≡ name_of tree
name_of-whole tree = text_within-whole 1 MAX_NAME_LENGTH tree

texts_of-whole : (values : Items) → texts_of (whole_items values) ≡ texts_of values
texts_of-whole no_items = refl
texts_of-whole (item tree others) = λ i.
    option_and_then (λ (text : List ℕ). option_map (λ (texts : List (List ℕ)). text ∷ texts) (texts_of-whole others i)) (as_str-whole tree i)

-- what is made of parts that say the same
parts_same : {A B : Type 0} (f : A → A) (form : A → Option B) → ((a : A) → form (f a) ≡ form a) → (o : Option A) → option_and_then form (option_map f o) ≡ option_and_then form o
parts_same f form same None = refl
parts_same f form same (Some a) = same a

pub texts_in-whole : (tree : Data) → texts_in (whole tree) ≡ texts_in tree
texts_in-whole tree = ap (option_and_then texts_of) (as_array-whole tree) ∙ parts_same whole_items texts_of texts_of-whole (as_array tree)

headers_with-whole : (headers : Headers) (members : Members) → headers_with headers (whole_members members) ≡ headers_with headers members
headers_with-whole headers no_members = refl
headers_with-whole headers (member name value others) =
    ap (option_and_then (λ (text : List ℕ). headers_with (with_header (str_to_ascii_lowercase name) text headers) (whole_members others))) (as_str-whole value)
    ∙ and_then-by (λ (text : List ℕ). headers_with (with_header (str_to_ascii_lowercase name) text headers) (whole_members others))
    (λ (text : List ℕ). headers_with (with_header (str_to_ascii_lowercase name) text headers) others)
    (λ text. headers_with-whole (with_header (str_to_ascii_lowercase name) text headers) others) (as_str value)

pub headers_of-whole : (tree : Data) → headers_of (whole tree) ≡ headers_of tree
headers_of-whole tree = ap (option_and_then (headers_with [])) (as_object-whole tree) ∙ parts_same whole_members (headers_with []) (headers_with-whole []) (as_object tree)

pub member_of-whole : {A : Type 0} (form : Data → Option A) → ((tree : Data) → form (whole tree) ≡ form tree)
    → (name : List ℕ) (tree : Data) → member_of form name (whole tree) ≡ member_of form name tree
member_of-whole form same name tree = ap (option_and_then form) (get-whole name tree) ∙ and_then-same form same (get name tree)

or_same : {A : Type 0} (form : Data → Option A) (default : A) → ((tree : Data) → form (whole tree) ≡ form tree)
    → (found : Option Data) → or_default form default (option_map whole found) ≡ or_default form default found
or_same form default same None = refl
or_same form default same (Some tree) = same tree

pub member_or-whole : {A : Type 0} (default : A) (form : Data → Option A) → ((tree : Data) → form (whole tree) ≡ form tree)
    → (name : List ℕ) (tree : Data) → member_or default form name (whole tree) ≡ member_or default form name tree
member_or-whole default form same name tree = ap (or_default form default) (get-whole name tree) ∙ or_same form default same (get name tree)

pub has_format-whole : (tree : Data) → has_format (whole tree) ≡ has_format tree
has_format-whole tree = ap is_some (get-whole (codes "format") tree) ∙ is_some-map whole (get (codes "format") tree)
