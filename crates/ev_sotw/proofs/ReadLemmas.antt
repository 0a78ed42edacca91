-- The message that is made is read as the response that says the same.
use Rattle.std.proofs.Common.{◌≡◌, ◌∙◌, ℕ, ◌≤◌, Bool, true, false, not, cond, ◌&&◌, ◌==◌, List, [], ◌∷◌, map, length, Option, Some, None, codes, refl, ap, arith, ne_eqb}
use Rattle.std.specs.List.{list_all}
use Rattle.serde_json.specs.Data.{Data, string, array}
use Rattle.serde_json.specs.View.{items_of}
use Rattle.ev_types.specs.declared.contents.Kind.{Kind}
use Rattle.ev_types.specs.declared.events.Profile.{Profile}
use Rattle.ev_tree.specs.declared.outcome.Found.{Found}
use Rattle.ev_tree.specs.declared.outcome.Found.TheVariants.{Absent, Given}
use Rattle.ev_tree.specs.Forms.{is_object, is_text, field_of, text_of, objects_of, texts_of, objects_in, texts_in, in_form, value_or_wrong, listed, text_in, is_wrong, given_or}
use Rattle.ev_tree.specs.Scalars.{list_in, elements_of}
use Rattle.ev_tree.specs.Spelling.{camel_of}
use Rattle.ev_wire.specs.Kinds.{kind_with}
use Rattle.ev_wire.specs.Responses.{item_of, is_entry, response_kind, nonce_of, entries_of, removed_of, has_head, has_lists, has_lists_of, parts_of, given_if, response_of}
use Rattle.ev_sotw.specs.Discovery.{resource_name}
use Rattle.ev_sotw.specs.Delta.{item_tree, items_of_kind, message_tree}
use Rattle.ev_sotw.specs.Told.{item_told, told_with, DeltasAreRead}

-- ---- fields of a message

-- a list as a field: absent where it is empty
abbrev list_found : List Data → Found Data
list_found [] = Absent
list_found (d ∷ ds) = Given (array (items_of (d ∷ ds)))

url_found : (url nonce : List ℕ) (items removed : List Data) → text_of (codes "type_url") (message_tree url nonce items removed) ≡ Given url
unfolding message_tree text_of field_of camel_of
url_found url nonce [] [] = refl
url_found url nonce [] (r ∷ rs) = refl
url_found url nonce (i ∷ is) [] = refl
url_found url nonce (i ∷ is) (r ∷ rs) = refl

nonce_found : (url nonce : List ℕ) (items removed : List Data) → text_of (codes "nonce") (message_tree url nonce items removed) ≡ Given nonce
unfolding message_tree text_of field_of camel_of
nonce_found url nonce [] [] = refl
nonce_found url nonce [] (r ∷ rs) = refl
nonce_found url nonce (i ∷ is) [] = refl
nonce_found url nonce (i ∷ is) (r ∷ rs) = refl

items_found : (url nonce : List ℕ) (items removed : List Data) → field_of (codes "resources") (message_tree url nonce items removed) ≡ list_found items
unfolding message_tree field_of camel_of
items_found url nonce [] [] = refl
items_found url nonce [] (r ∷ rs) = refl
items_found url nonce (i ∷ is) [] = refl
items_found url nonce (i ∷ is) (r ∷ rs) = refl

removed_found : (url nonce : List ℕ) (items removed : List Data) → field_of (codes "removed_resources") (message_tree url nonce items removed) ≡ list_found removed
unfolding message_tree field_of camel_of
removed_found url nonce [] [] = refl
removed_found url nonce [] (r ∷ rs) = refl
removed_found url nonce (i ∷ is) [] = refl
removed_found url nonce (i ∷ is) (r ∷ rs) = refl

object_is : (url nonce : List ℕ) (items removed : List Data) → is_object (message_tree url nonce items removed) ≡ true
unfolding message_tree
object_is url nonce items removed = refl

-- ---- lists

elements_back : (ds : List Data) → elements_of (items_of ds) ≡ ds
elements_back [] = refl
elements_back (d ∷ ds) = ap (λ (es : List Data). d ∷ es) (elements_back ds)

-- what a form of lists finds, where each element has the form
abbrev list_given : List Data → Found (List Data)
list_given [] = Absent
list_given (d ∷ ds) = Given (d ∷ ds)

objects_found : (ds : List Data) → list_all is_object ds ≡ true → in_form objects_in (list_found ds) ≡ list_given ds
unfolding list_in
objects_found [] all = refl
objects_found (d ∷ ds) all =
    ap (λ (es : List Data). value_or_wrong (cond (list_all is_object es) (Some es) None)) (elements_back (d ∷ ds))
    ∙ ap (λ (b : Bool). value_or_wrong (cond b (Some (d ∷ ds)) None)) all

texts_found : (ds : List Data) → list_all is_text ds ≡ true → in_form texts_in (list_found ds) ≡ list_given ds
unfolding list_in
texts_found [] all = refl
texts_found (d ∷ ds) all =
    ap (λ (es : List Data). value_or_wrong (cond (list_all is_text es) (Some es) None)) (elements_back (d ∷ ds))
    ∙ ap (λ (b : Bool). value_or_wrong (cond b (Some (d ∷ ds)) None)) all

right_list : (ds : List Data) → is_wrong (list_given ds) ≡ false
right_list [] = refl
right_list (d ∷ ds) = refl

listed_back : (ds : List Data) → listed (list_given ds) ≡ ds
listed_back [] = refl
listed_back (d ∷ ds) = refl

all_texts : (texts : List (List ℕ)) → list_all is_text (map string texts) ≡ true
all_texts [] = refl
all_texts (text ∷ texts) = all_texts texts

texts_back : (texts : List (List ℕ)) → map text_in (map string texts) ≡ texts
texts_back [] = refl
texts_back (text ∷ texts) = ap (λ (ts : List (List ℕ)). text ∷ ts) (texts_back texts)

-- ---- items

item_object : (kind : Kind) (version : List ℕ) (resource : Data) → is_object (item_tree kind version resource) ≡ true
unfolding item_tree
item_object kind version resource = refl

item_name : (kind : Kind) (version : List ℕ) (resource : Data) → text_of (codes "name") (item_tree kind version resource) ≡ Given (resource_name kind resource)
unfolding item_tree text_of field_of camel_of
item_name kind version resource = refl

item_version : (kind : Kind) (version : List ℕ) (resource : Data) → text_of (codes "version") (item_tree kind version resource) ≡ Given version
unfolding item_tree text_of field_of camel_of
item_version kind version resource = refl

item_entry : (kind : Kind) (version : List ℕ) (resource : Data) → is_entry (item_tree kind version resource) ≡ true
unfolding is_entry
item_entry kind version resource = λ i. not (is_wrong (item_name kind version resource i)) && not (is_wrong (item_version kind version resource i))

items_objects : (kind : Kind) (version : List ℕ) (resources : List Data) → list_all is_object (map (item_tree kind version) resources) ≡ true
items_objects kind version [] = refl
items_objects kind version (resource ∷ resources) = λ i. item_object kind version resource i && items_objects kind version resources i

items_entries : (kind : Kind) (version : List ℕ) (resources : List Data) → list_all is_entry (map (item_tree kind version) resources) ≡ true
items_entries kind version [] = refl
items_entries kind version (resource ∷ resources) = λ i. item_entry kind version resource i && items_entries kind version resources i

told_map : (profile : Profile) (kind : Kind) (version : List ℕ) (resources : List Data) → map (item_of profile kind) (map (item_tree kind version) resources) ≡ map (item_told profile kind version) resources
told_map profile kind version [] = refl
told_map profile kind version (resource ∷ resources) = ap (λ (items : List _). item_told profile kind version resource ∷ items) (told_map profile kind version resources)

told_name : (profile : Profile) (kind : Kind) (version : List ℕ) (resource : Data) → (item_told profile kind version resource).name ≡ resource_name kind resource
unfolding item_of
told_name profile kind version resource = ap (given_or []) (item_name kind version resource)

-- ---- the message

kind_is : (profile : Profile) (url nonce : List ℕ) (items removed : List Data) → response_kind profile (message_tree url nonce items removed) ≡ kind_with profile url
unfolding response_kind
kind_is profile url nonce items removed = ap (λ (f : Found (List ℕ)). kind_with profile (given_or [] f)) (url_found url nonce items removed)

nonce_is : (url nonce : List ℕ) (items removed : List Data) → nonce_of (message_tree url nonce items removed) ≡ nonce
unfolding nonce_of
nonce_is url nonce items removed = ap (given_or []) (nonce_found url nonce items removed)

some_length : (xs : List ℕ) → 1 ≤ length xs → not (length xs == 0) ≡ true
some_length [] some = absurd (omega arith)
some_length (x ∷ xs) some = ap not (ne_eqb (length (x ∷ xs)) 0 (λ e. omega arith))

head_is : (url nonce : List ℕ) (items removed : List Data) → 1 ≤ length nonce → has_head (message_tree url nonce items removed) ≡ true
unfolding has_head
head_is url nonce items removed some =
    (λ i. object_is url nonce items removed i && not (is_wrong (url_found url nonce items removed i)) && not (length (nonce_is url nonce items removed i) == 0))
    ∙ some_length nonce some

entries_is : (url nonce : List ℕ) (items removed : List Data) → list_all is_object items ≡ true → entries_of (message_tree url nonce items removed) ≡ items
unfolding entries_of objects_of
entries_is url nonce items removed all =
    ap (λ (f : Found Data). listed (in_form objects_in f)) (items_found url nonce items removed) ∙ ap listed (objects_found items all) ∙ listed_back items

removed_is : (url nonce : List ℕ) (items : List Data) (removed : List (List ℕ)) → removed_of (message_tree url nonce items (map string removed)) ≡ removed
unfolding removed_of texts_of
removed_is url nonce items removed =
    ap (λ (f : Found Data). map text_in (listed (in_form texts_in f))) (removed_found url nonce items (map string removed))
    ∙ ap (λ (f : Found (List Data)). map text_in (listed f)) (texts_found (map string removed) (all_texts removed))
    ∙ ap (map text_in) (listed_back (map string removed)) ∙ texts_back removed

lists_are : (url nonce : List ℕ) (items : List Data) (removed : List (List ℕ)) → list_all is_object items ≡ true → list_all is_entry items ≡ true
    → has_lists (message_tree url nonce items (map string removed)) ≡ true
unfolding has_lists objects_of texts_of
lists_are url nonce items removed objects entries =
    (λ i. not (is_wrong (in_form objects_in (items_found url nonce items (map string removed) i)))
    && not (is_wrong (in_form texts_in (removed_found url nonce items (map string removed) i)))
    && list_all is_entry (entries_is url nonce items (map string removed) objects i))
    ∙ (λ i. not (is_wrong (objects_found items objects i)) && not (is_wrong (texts_found (map string removed) (all_texts removed) i)) && list_all is_entry items)
    ∙ (λ i. not (right_list items i) && not (right_list (map string removed) i) && entries i)

given_true : {A : Type 0} (test : Bool) (a : A) → test ≡ true → given_if test a ≡ Some a
given_true test a is = ap (λ (b : Bool). given_if b a) is

-- by the kind of the response
read_as : (profile : Profile) (kind : Option Kind) (url nonce version : List ℕ) (resources : List Data) (removed : List (List ℕ)) → kind_with profile url ≡ kind → 1 ≤ length nonce
    → response_of profile (message_tree url nonce (items_of_kind kind version resources) (map string removed))
    ≡ Some (told_with profile kind (record { kind = kind; url = url; nonce = nonce; version = version; resources = resources }) removed)
unfolding response_of
read_as profile None url nonce version resources removed is some =
    let tree : Data = message_tree url nonce [] (map string removed) in
    let kind : response_kind profile tree ≡ None = kind_is profile url nonce [] (map string removed) ∙ is in
    (λ i. given_if (head_is url nonce [] (map string removed) some i && has_lists_of (kind i) tree) (parts_of profile (kind i) (nonce_is url nonce [] (map string removed) i) tree))
read_as profile (Some k) url nonce version resources removed is some =
    let items : List Data = map (item_tree k version) resources in
    let tree : Data = message_tree url nonce items (map string removed) in
    let kind : response_kind profile tree ≡ Some k = kind_is profile url nonce items (map string removed) ∙ is in
    (λ i. given_if (head_is url nonce items (map string removed) some i && has_lists_of (kind i) tree) (parts_of profile (kind i) (nonce_is url nonce items (map string removed) i) tree))
    ∙ (λ i. given_if (lists_are url nonce items removed (items_objects k version resources) (items_entries k version resources) i) (parts_of profile (Some k) nonce tree))
    ∙ (λ i. Some (record {
      kind = Some k;
      nonce = nonce;
      items = map (item_of profile k) (entries_is url nonce items (map string removed) (items_objects k version resources) i);
      removed = removed_is url nonce items removed i;
    }))
    ∙ (λ i. Some (record { kind = Some k; nonce = nonce; items = told_map profile k version resources i; removed = removed }))

pub read_so : DeltasAreRead
read_so profile response removed is = record {
  reads = read_as profile response.kind response.url response.nonce response.version response.resources removed is.kind is.nonce;
  named = λ kind resource. told_name profile kind response.version resource;
}
