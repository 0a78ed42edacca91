-- What looking into a tree gives of one with -1 for each float, and what is made of parts and of lists of parts.
use Rattle.std.proofs.Common.{◌≡◌, ℕ, suc, ◌+◌, ◌&&◌, ◌||◌, List, [], ◌∷◌, ◌++◌, length, map, Bool, Option, None, Some, is_some, option_map, option_and_then, Ordering, Less, Equal, Greater, refl, sym, ap, ap₂, ◌∙◌}
use Rattle.std.specs.List.{list_any, list_all, flat_map, sum_by}
use Rattle.std.proofs.lemmas.List.Sums.{sum_by-cons}
use Rattle.std.specs.Ordering.{match_ordering, nat_cmp}
use Rattle.std.specs.Cmp.Lexicographic.{slice_cmp}
use Rattle.serde_json.specs.Data.{Num, unsigned, negative, float, Data, null, boolean, number, string, array, object, Items, no_items, item, Members, no_members, member}
use Rattle.serde_json.specs.Find.{get, get_member, as_null, as_bool, as_number, as_u64, as_str, as_array, as_object}
use Rattle.ev_tree.specs.declared.broken.BrokenRules.{BrokenRules}
use Rattle.ev_tree.specs.declared.outcome.Found.{Found}
use Rattle.ev_tree.specs.declared.outcome.Found.TheVariants.{Absent, Wrong, Given}
use Rattle.ev_tree.specs.Forms.{found_map, is_wrong, is_given, is_absent, inside, listed}
use Rattle.ev_tree.specs.Broken.{any_broken}
use Rattle.ev_tree.specs.Scalars.{elements_of}
use Rattle.ev_tree.specs.Floats.{whole, whole_number, whole_items, whole_members}

-- ---- members and values

found : (o : Ordering) (a b : Option Data) → match_ordering o (option_map whole a) (option_map whole b) (option_map whole a) ≡ option_map whole (match_ordering o a b a)
found Less a b = refl
found Equal a b = refl
found Greater a b = refl

pub get_member-whole : (name : List ℕ) (ms : Members) → get_member name (whole_members ms) ≡ option_map whole (get_member name ms)
get_member-whole name no_members = refl
get_member-whole name (member l d ms) =
    ap (λ (o : Option Data). match_ordering (slice_cmp nat_cmp name l) o (Some (whole d)) o) (get_member-whole name ms)
    ∙ found (slice_cmp nat_cmp name l) (get_member name ms) (Some d)

pub get-whole : (name : List ℕ) (tree : Data) → get name (whole tree) ≡ option_map whole (get name tree)
get-whole name null = refl
get-whole name (boolean b) = refl
get-whole name (number n) = refl
get-whole name (string s) = refl
get-whole name (array ds) = refl
get-whole name (object ms) = get_member-whole name ms

pub as_null-whole : (tree : Data) → as_null (whole tree) ≡ as_null tree
as_null-whole null = refl
as_null-whole (boolean b) = refl
as_null-whole (number n) = refl
as_null-whole (string s) = refl
as_null-whole (array ds) = refl
as_null-whole (object ms) = refl

pub as_bool-whole : (tree : Data) → as_bool (whole tree) ≡ as_bool tree
as_bool-whole null = refl
as_bool-whole (boolean b) = refl
as_bool-whole (number n) = refl
as_bool-whole (string s) = refl
as_bool-whole (array ds) = refl
as_bool-whole (object ms) = refl

pub as_str-whole : (tree : Data) → as_str (whole tree) ≡ as_str tree
as_str-whole null = refl
as_str-whole (boolean b) = refl
as_str-whole (number n) = refl
as_str-whole (string s) = refl
as_str-whole (array ds) = refl
as_str-whole (object ms) = refl

u64_in : (n : Num) → as_u64 (whole_number n) ≡ as_u64 n
u64_in (unsigned n) = refl
u64_in (negative z) = refl
u64_in (float x) = refl

-- the whole number that a tree is
pub as_u64-whole : (tree : Data) → option_and_then as_u64 (as_number (whole tree)) ≡ option_and_then as_u64 (as_number tree)
as_u64-whole null = refl
as_u64-whole (boolean b) = refl
as_u64-whole (number n) = u64_in n
as_u64-whole (string s) = refl
as_u64-whole (array ds) = refl
as_u64-whole (object ms) = refl

pub as_array-whole : (tree : Data) → as_array (whole tree) ≡ option_map whole_items (as_array tree)
as_array-whole null = refl
as_array-whole (boolean b) = refl
as_array-whole (number n) = refl
as_array-whole (string s) = refl
as_array-whole (array ds) = refl
as_array-whole (object ms) = refl

pub as_object-whole : (tree : Data) → as_object (whole tree) ≡ option_map whole_members (as_object tree)
as_object-whole null = refl
as_object-whole (boolean b) = refl
as_object-whole (number n) = refl
as_object-whole (string s) = refl
as_object-whole (array ds) = refl
as_object-whole (object ms) = refl

pub elements_of-whole : (ds : Items) → elements_of (whole_items ds) ≡ map whole (elements_of ds)
elements_of-whole no_items = refl
elements_of-whole (item d ds) = ap (λ (rest : List Data). whole d ∷ rest) (elements_of-whole ds)

-- ---- options

pub is_some-map : {A B : Type 0} (f : A → B) (o : Option A) → is_some (option_map f o) ≡ is_some o
is_some-map f None = refl
is_some-map f (Some x) = refl

-- a form of what was found that says the same of both
pub and_then-same : {A : Type 0} (form : Data → Option A) → ((tree : Data) → form (whole tree) ≡ form tree)
    → (o : Option Data) → option_and_then form (option_map whole o) ≡ option_and_then form o
and_then-same form same None = refl
and_then-same form same (Some tree) = same tree

-- forms that say the same of each value
pub and_then-by : {A B : Type 0} (f g : A → Option B) → ((x : A) → f x ≡ g x) → (o : Option A) → option_and_then f o ≡ option_and_then g o
and_then-by f g same None = refl
and_then-by f g same (Some x) = same x

-- ---- outcomes

pub is_wrong-map : {A B : Type 0} (f : A → B) (x : Found A) → is_wrong (found_map f x) ≡ is_wrong x
is_wrong-map f Absent = refl
is_wrong-map f Wrong = refl
is_wrong-map f (Given x) = refl

pub is_given-map : {A B : Type 0} (f : A → B) (x : Found A) → is_given (found_map f x) ≡ is_given x
is_given-map f Absent = refl
is_given-map f Wrong = refl
is_given-map f (Given x) = refl

pub is_absent-map : {A B : Type 0} (f : A → B) (x : Found A) → is_absent (found_map f x) ≡ is_absent x
is_absent-map f Absent = refl
is_absent-map f Wrong = refl
is_absent-map f (Given x) = refl

pub inside-map : (x : Found Data) → inside (found_map whole x) ≡ whole (inside x)
inside-map Absent = refl
inside-map Wrong = refl
inside-map (Given d) = refl

pub listed-map : (x : Found (List Data)) → listed (found_map (map whole) x) ≡ map whole (listed x)
listed-map Absent = refl
listed-map Wrong = refl
listed-map (Given ds) = refl

-- ---- lists of parts

pub map-whole : {A : Type 0} (form : Data → A) → ((tree : Data) → form (whole tree) ≡ form tree) → (trees : List Data) → map form (map whole trees) ≡ map form trees
map-whole form same [] = refl
map-whole form same (tree ∷ trees) = ap₂ (λ x xs. x ∷ xs) (same tree) (map-whole form same trees)

pub list_any-whole : (form : Data → Bool) → ((tree : Data) → form (whole tree) ≡ form tree) → (trees : List Data) → list_any form (map whole trees) ≡ list_any form trees
list_any-whole form same [] = refl
list_any-whole form same (tree ∷ trees) = ap₂ (λ (a b : Bool). a || b) (same tree) (list_any-whole form same trees)

pub list_all-whole : (form : Data → Bool) → ((tree : Data) → form (whole tree) ≡ form tree) → (trees : List Data) → list_all form (map whole trees) ≡ list_all form trees
list_all-whole form same [] = refl
list_all-whole form same (tree ∷ trees) = ap₂ (λ (a b : Bool). a && b) (same tree) (list_all-whole form same trees)

pub flat_map-whole : {A : Type 0} (form : Data → List A) → ((tree : Data) → form (whole tree) ≡ form tree) → (trees : List Data) → flat_map form (map whole trees) ≡ flat_map form trees
flat_map-whole form same [] = refl
flat_map-whole form same (tree ∷ trees) = ap₂ (λ xs ys. xs ++ ys) (same tree) (flat_map-whole form same trees)

pub length-whole : (trees : List Data) → length (map whole trees) ≡ length trees
length-whole [] = refl
length-whole (tree ∷ trees) = ap (λ (n : ℕ). suc n) (length-whole trees)

pub any_broken-whole : (broken : Data → BrokenRules) → ((tree : Data) → broken (whole tree) ≡ broken tree) → (trees : List Data) → any_broken broken (map whole trees) ≡ any_broken broken trees
any_broken-whole broken same trees = λ i. record {
  v1 = list_any-whole (λ (part : Data). (broken part).v1) (λ (part : Data). ap (λ (b : BrokenRules). b.v1) (same part)) trees i;
  v2 = list_any-whole (λ (part : Data). (broken part).v2) (λ (part : Data). ap (λ (b : BrokenRules). b.v2) (same part)) trees i;
  v3 = list_any-whole (λ (part : Data). (broken part).v3) (λ (part : Data). ap (λ (b : BrokenRules). b.v3) (same part)) trees i;
  v6 = list_any-whole (λ (part : Data). (broken part).v6) (λ (part : Data). ap (λ (b : BrokenRules). b.v6) (same part)) trees i;
  v7 = list_any-whole (λ (part : Data). (broken part).v7) (λ (part : Data). ap (λ (b : BrokenRules). b.v7) (same part)) trees i;
  v8 = list_any-whole (λ (part : Data). (broken part).v8) (λ (part : Data). ap (λ (b : BrokenRules). b.v8) (same part)) trees i;
  v9 = list_any-whole (λ (part : Data). (broken part).v9) (λ (part : Data). ap (λ (b : BrokenRules). b.v9) (same part)) trees i;
  v10 = list_any-whole (λ (part : Data). (broken part).v10) (λ (part : Data). ap (λ (b : BrokenRules). b.v10) (same part)) trees i;
  v11 = list_any-whole (λ (part : Data). (broken part).v11) (λ (part : Data). ap (λ (b : BrokenRules). b.v11) (same part)) trees i;
  v12 = list_any-whole (λ (part : Data). (broken part).v12) (λ (part : Data). ap (λ (b : BrokenRules). b.v12) (same part)) trees i;
  v13 = list_any-whole (λ (part : Data). (broken part).v13) (λ (part : Data). ap (λ (b : BrokenRules). b.v13) (same part)) trees i;
  v14 = list_any-whole (λ (part : Data). (broken part).v14) (λ (part : Data). ap (λ (b : BrokenRules). b.v14) (same part)) trees i;
  v16 = list_any-whole (λ (part : Data). (broken part).v16) (λ (part : Data). ap (λ (b : BrokenRules). b.v16) (same part)) trees i;
  v17 = list_any-whole (λ (part : Data). (broken part).v17) (λ (part : Data). ap (λ (b : BrokenRules). b.v17) (same part)) trees i;
  v18 = list_any-whole (λ (part : Data). (broken part).v18) (λ (part : Data). ap (λ (b : BrokenRules). b.v18) (same part)) trees i;
  v19 = list_any-whole (λ (part : Data). (broken part).v19) (λ (part : Data). ap (λ (b : BrokenRules). b.v19) (same part)) trees i;
  v20 = list_any-whole (λ (part : Data). (broken part).v20) (λ (part : Data). ap (λ (b : BrokenRules). b.v20) (same part)) trees i;
  v21 = list_any-whole (λ (part : Data). (broken part).v21) (λ (part : Data). ap (λ (b : BrokenRules). b.v21) (same part)) trees i;
  v22 = list_any-whole (λ (part : Data). (broken part).v22) (λ (part : Data). ap (λ (b : BrokenRules). b.v22) (same part)) trees i;
  v23 = list_any-whole (λ (part : Data). (broken part).v23) (λ (part : Data). ap (λ (b : BrokenRules). b.v23) (same part)) trees i;
  v24 = list_any-whole (λ (part : Data). (broken part).v24) (λ (part : Data). ap (λ (b : BrokenRules). b.v24) (same part)) trees i;
  v25 = list_any-whole (λ (part : Data). (broken part).v25) (λ (part : Data). ap (λ (b : BrokenRules). b.v25) (same part)) trees i;
  v26 = list_any-whole (λ (part : Data). (broken part).v26) (λ (part : Data). ap (λ (b : BrokenRules). b.v26) (same part)) trees i;
  v27 = list_any-whole (λ (part : Data). (broken part).v27) (λ (part : Data). ap (λ (b : BrokenRules). b.v27) (same part)) trees i;
  v28 = list_any-whole (λ (part : Data). (broken part).v28) (λ (part : Data). ap (λ (b : BrokenRules). b.v28) (same part)) trees i;
  v29 = list_any-whole (λ (part : Data). (broken part).v29) (λ (part : Data). ap (λ (b : BrokenRules). b.v29) (same part)) trees i;
}

pub sum_by-whole : (form : Data → ℕ) → ((tree : Data) → form (whole tree) ≡ form tree) → (trees : List Data) → sum_by form (map whole trees) ≡ sum_by form trees
sum_by-whole form same [] = refl
sum_by-whole form same (tree ∷ trees) =
    sum_by-cons form (whole tree) (map whole trees) ∙ ap₂ (λ (a b : ℕ). a + b) (same tree) (sum_by-whole form same trees) ∙ sym (sum_by-cons form tree trees)
