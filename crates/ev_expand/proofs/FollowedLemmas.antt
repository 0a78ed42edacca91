-- A line that follows is read as a response of endpoints.
use Rattle.std.proofs.Common.{◌≡◌, ◌∙◌, ℕ, ◌≤◌, Bool, true, false, not, ◌&&◌, ◌==◌, cond, List, [], ◌∷◌, ◌++◌, map, filter_map, length, Option, Some, None, option_map, codes, refl, ap, ap₂, arith, ne_eqb, length-append}
use Rattle.std.specs.List.{list_all, cons_option}
use Rattle.serde_json.specs.Data.{Data, string, array, object, Members, no_members, put}
use Rattle.serde_json.specs.View.{items_of}
use Rattle.ev_types.specs.Items.{ItemParts}
use Rattle.ev_types.specs.declared.contents.Kind.TheVariants.{Eds}
use Rattle.ev_types.specs.declared.events.Profile.{Profile}
use Rattle.ev_tree.specs.declared.outcome.Found.{Found}
use Rattle.ev_tree.specs.declared.outcome.Found.TheVariants.{Absent, Given}
use Rattle.ev_tree.specs.Spelling.{camel_of}
use Rattle.ev_tree.specs.Scalars.{list_in}
use Rattle.ev_tree.specs.Forms.{is_object, is_text, is_wrong, given_or, listed, text_in, field_of, in_form, value_or_wrong, objects_in, texts_in, text_of, objects_of, texts_of}
use Rattle.ev_tree.proofs.Elements.{elements_of-items_of}
use Rattle.ev_types.specs.Kinds.{type_url}
use Rattle.ev_wire.specs.Kinds.{kind_with}
use Rattle.ev_wire.specs.Responses.{entry_name, is_entry, item_of, response_kind, nonce_of, entries_of, removed_of, has_head, has_lists, has_lists_of, parts_of, given_if, response_of}
use Rattle.ev_expand.specs.Guarding.{private_name}
use Rattle.ev_expand.specs.Following.{DueParts, endpoints_entry, entry_due, name_without, name_due, with_list}
use Rattle.ev_expand.specs.Waiting.{name_with, bare_name, name_left, following_response}
use Rattle.ev_expand.proofs.LineLemmas.{objects_given}

-- ---- the message

-- the members with a list, where it has elements
abbrev listed_members : List ℕ → List Data → Members → Members
listed_members name [] ms = ms
listed_members name (value ∷ values) ms = put name (array (items_of (value ∷ values))) ms

list_is : (name : List ℕ) (values : List Data) (ms : Members) → with_list name values ms ≡ listed_members name values ms
list_is name [] ms = refl
list_is name (value ∷ values) ms =
    ap (λ (b : Bool). cond b ms (put name (array (items_of (value ∷ values))) ms)) (ne_eqb (length (value ∷ values)) 0 (λ e. omega arith))

-- a message with these resources and removed names
unfoldable message_of_lists : List ℕ → List Data → List Data → Data
message_of_lists nonce items removed = object
    (listed_members (codes "resources") items
    (listed_members (codes "removedResources") removed (put (codes "typeUrl") (string (type_url Eds)) (put (codes "nonce") (string nonce) no_members))))

-- the message of a line that follows
abbrev pub following_message : List ℕ → List ℕ → List ℕ → List DueParts → Data
following_message prefix nonce version due = object
    (with_list (codes "resources") (filter_map (entry_due prefix version) due)
    (with_list (codes "removedResources") (filter_map (name_due prefix) due)
    (put (codes "typeUrl") (string (type_url Eds)) (put (codes "nonce") (string (nonce ++ version)) no_members))))

message_is : (prefix nonce version : List ℕ) (due : List DueParts)
    → following_message prefix nonce version due ≡ message_of_lists (nonce ++ version) (filter_map (entry_due prefix version) due) (filter_map (name_due prefix) due)
unfolding message_of_lists
message_is prefix nonce version due =
    ap object (list_is (codes "resources") (filter_map (entry_due prefix version) due) _)
    ∙ ap (λ (ms : Members). object (listed_members (codes "resources") (filter_map (entry_due prefix version) due) ms))
    (list_is (codes "removedResources") (filter_map (name_due prefix) due) (put (codes "typeUrl") (string (type_url Eds)) (put (codes "nonce") (string (nonce ++ version)) no_members)))

-- a list as a field: absent where it is empty
abbrev list_found : List Data → Found Data
list_found [] = Absent
list_found (d ∷ ds) = Given (array (items_of (d ∷ ds)))

type_found : (nonce : List ℕ) (items removed : List Data) → text_of (codes "type_url") (message_of_lists nonce items removed) ≡ Given (type_url Eds)
unfolding message_of_lists text_of field_of camel_of
type_found nonce [] [] = refl
type_found nonce [] (r ∷ rs) = refl
type_found nonce (i ∷ is) [] = refl
type_found nonce (i ∷ is) (r ∷ rs) = refl

nonce_found : (nonce : List ℕ) (items removed : List Data) → text_of (codes "nonce") (message_of_lists nonce items removed) ≡ Given nonce
unfolding message_of_lists text_of field_of camel_of
nonce_found nonce [] [] = refl
nonce_found nonce [] (r ∷ rs) = refl
nonce_found nonce (i ∷ is) [] = refl
nonce_found nonce (i ∷ is) (r ∷ rs) = refl

items_found : (nonce : List ℕ) (items removed : List Data) → field_of (codes "resources") (message_of_lists nonce items removed) ≡ list_found items
unfolding message_of_lists field_of camel_of
items_found nonce [] [] = refl
items_found nonce [] (r ∷ rs) = refl
items_found nonce (i ∷ is) [] = refl
items_found nonce (i ∷ is) (r ∷ rs) = refl

removed_found : (nonce : List ℕ) (items removed : List Data) → field_of (codes "removed_resources") (message_of_lists nonce items removed) ≡ list_found removed
unfolding message_of_lists field_of camel_of
removed_found nonce [] [] = refl
removed_found nonce [] (r ∷ rs) = refl
removed_found nonce (i ∷ is) [] = refl
removed_found nonce (i ∷ is) (r ∷ rs) = refl

object_found : (nonce : List ℕ) (items removed : List Data) → is_object (message_of_lists nonce items removed) ≡ true
unfolding message_of_lists
object_found nonce items removed = refl

-- ---- lists

-- what a form of lists finds, where each element has the form
abbrev list_given : List Data → Found (List Data)
list_given [] = Absent
list_given (d ∷ ds) = Given (d ∷ ds)

objects_found : (ds : List Data) → list_all is_object ds ≡ true → in_form objects_in (list_found ds) ≡ list_given ds
objects_found [] all = refl
objects_found (d ∷ ds) all = objects_given (d ∷ ds) all

texts_found : (ds : List Data) → list_all is_text ds ≡ true → in_form texts_in (list_found ds) ≡ list_given ds
unfolding list_in
texts_found [] all = refl
texts_found (d ∷ ds) all =
    ap (λ (es : List Data). value_or_wrong (cond (list_all is_text es) (Some es) None)) (elements_of-items_of (d ∷ ds))
    ∙ ap (λ (b : Bool). value_or_wrong (cond b (Some (d ∷ ds)) None)) all

right_list : (ds : List Data) → is_wrong (list_given ds) ≡ false
right_list [] = refl
right_list (d ∷ ds) = refl

listed_back : (ds : List Data) → listed (list_given ds) ≡ ds
listed_back [] = refl
listed_back (d ∷ ds) = refl

-- ---- resources and names

entry_object : (version name : List ℕ) (endpoints : Data) → is_object (endpoints_entry version name endpoints) ≡ true
entry_object version name endpoints = refl

entry_named : (version name : List ℕ) (endpoints : Data) → text_of (codes "name") (endpoints_entry version name endpoints) ≡ Given name
unfolding text_of field_of camel_of
entry_named version name endpoints = refl

entry_version : (version name : List ℕ) (endpoints : Data) → text_of (codes "version") (endpoints_entry version name endpoints) ≡ Given version
unfolding text_of field_of camel_of
entry_version version name endpoints = refl

entry_right : (version name : List ℕ) (endpoints : Data) → is_entry (endpoints_entry version name endpoints) ≡ true
unfolding is_entry
entry_right version name endpoints = λ i. not (is_wrong (entry_named version name endpoints i)) && not (is_wrong (entry_version version name endpoints i))

-- what holds of each resource of a place holds of those of all
all_put : (p : Data → Bool) (make : Data → Data) (found : Option Data) (ds : List Data) → ((endpoints : Data) → p (make endpoints) ≡ true) → list_all p ds ≡ true
    → list_all p (cons_option (option_map make found) ds) ≡ true
all_put p make None ds each all = all
all_put p make (Some endpoints) ds each all = ap₂ (λ (a b : Bool). a && b) (each endpoints) all

all_due : (p : Data → Bool) (prefix version : List ℕ) (due : List DueParts) → ((name : List ℕ) (endpoints : Data) → p (endpoints_entry version name endpoints) ≡ true)
    → list_all p (filter_map (entry_due prefix version) due) ≡ true
all_due p prefix version [] each = refl
all_due p prefix version (d ∷ due) each =
    all_put p (endpoints_entry version (private_name prefix d.place)) d.endpoints (filter_map (entry_due prefix version) due) (each (private_name prefix d.place)) (all_due p prefix version due each)

name_put : (name : List ℕ) (found : Option Data) (ds : List Data) (names : List (List ℕ)) → ds ≡ map string names
    → cons_option (name_without name found) ds ≡ map string (cons_option (bare_name name found) names)
name_put name None ds names same = ap (λ (ts : List Data). string name ∷ ts) same
name_put name (Some endpoints) ds names same = same

names_are : (prefix : List ℕ) (due : List DueParts) → filter_map (name_due prefix) due ≡ map string (filter_map (name_left prefix) due)
names_are prefix [] = refl
names_are prefix (d ∷ due) = name_put (private_name prefix d.place) d.endpoints (filter_map (name_due prefix) due) (filter_map (name_left prefix) due) (names_are prefix due)

all_texts : (texts : List (List ℕ)) → list_all is_text (map string texts) ≡ true
all_texts [] = refl
all_texts (text ∷ texts) = all_texts texts

texts_back : (texts : List (List ℕ)) → map text_in (map string texts) ≡ texts
texts_back [] = refl
texts_back (text ∷ texts) = ap (λ (ts : List (List ℕ)). text ∷ ts) (texts_back texts)

-- the name of an item is that of its resource
pub item_name : (profile : Profile) (entry : Data) → (item_of profile Eds entry).name ≡ entry_name entry
unfolding item_of
item_name profile entry = refl

name_given : (profile : Profile) (version name : List ℕ) (found : Option Data) (ds : List Data) (names : List (List ℕ)) → map (λ (item : ItemParts). item.name) (map (item_of profile Eds) ds) ≡ names
    → map (λ (item : ItemParts). item.name) (map (item_of profile Eds) (cons_option (option_map (endpoints_entry version name) found) ds)) ≡ cons_option (option_map (λ endpoints. name) found) names
name_given profile version name None ds names same = same
name_given profile version name (Some endpoints) ds names same =
    ap₂ (λ (n : List ℕ) (ns : List (List ℕ)). n ∷ ns) (item_name profile (endpoints_entry version name endpoints) ∙ ap (given_or []) (entry_named version name endpoints)) same

pub names_given : (profile : Profile) (prefix version : List ℕ) (due : List DueParts)
    → map (λ (item : ItemParts). item.name) (map (item_of profile Eds) (filter_map (entry_due prefix version) due)) ≡ filter_map (name_with prefix) due
names_given profile prefix version [] = refl
names_given profile prefix version (d ∷ due) =
    name_given profile version (private_name prefix d.place) d.endpoints (filter_map (entry_due prefix version) due) (filter_map (name_with prefix) due) (names_given profile prefix version due)

-- ---- the response

type_is : (profile : Profile) (nonce : List ℕ) (items removed : List Data) → response_kind profile (message_of_lists nonce items removed) ≡ Some Eds
unfolding response_kind
type_is profile nonce items removed = ap (λ (f : Found (List ℕ)). kind_with profile (given_or [] f)) (type_found nonce items removed)

nonce_is : (nonce : List ℕ) (items removed : List Data) → nonce_of (message_of_lists nonce items removed) ≡ nonce
unfolding nonce_of
nonce_is nonce items removed = ap (given_or []) (nonce_found nonce items removed)

some_length : (xs : List ℕ) → 1 ≤ length xs → not (length xs == 0) ≡ true
some_length xs some = ap not (ne_eqb (length xs) 0 (λ e. omega arith))

head_is : (nonce : List ℕ) (items removed : List Data) → 1 ≤ length nonce → has_head (message_of_lists nonce items removed) ≡ true
unfolding has_head
head_is nonce items removed some =
    (λ i. object_found nonce items removed i && not (is_wrong (type_found nonce items removed i)) && not (length (nonce_is nonce items removed i) == 0))
    ∙ some_length nonce some

entries_are : (nonce : List ℕ) (items removed : List Data) → list_all is_object items ≡ true → entries_of (message_of_lists nonce items removed) ≡ items
unfolding entries_of objects_of
entries_are nonce items removed all =
    ap (λ (f : Found Data). listed (in_form objects_in f)) (items_found nonce items removed) ∙ ap listed (objects_found items all) ∙ listed_back items

removed_are : (nonce : List ℕ) (items : List Data) (removed : List (List ℕ)) → removed_of (message_of_lists nonce items (map string removed)) ≡ removed
unfolding removed_of texts_of
removed_are nonce items removed =
    ap (λ (f : Found Data). map text_in (listed (in_form texts_in f))) (removed_found nonce items (map string removed))
    ∙ ap (λ (f : Found (List Data)). map text_in (listed f)) (texts_found (map string removed) (all_texts removed))
    ∙ ap (map text_in) (listed_back (map string removed)) ∙ texts_back removed

lists_are : (nonce : List ℕ) (items : List Data) (removed : List (List ℕ)) → list_all is_object items ≡ true → list_all is_entry items ≡ true
    → has_lists (message_of_lists nonce items (map string removed)) ≡ true
unfolding has_lists objects_of texts_of
lists_are nonce items removed objects entries =
    (λ i. not (is_wrong (in_form objects_in (items_found nonce items (map string removed) i)))
    && not (is_wrong (in_form texts_in (removed_found nonce items (map string removed) i)))
    && list_all is_entry (entries_are nonce items (map string removed) objects i))
    ∙ (λ i. not (is_wrong (objects_found items objects i)) && not (is_wrong (texts_found (map string removed) (all_texts removed) i)) && list_all is_entry items)
    ∙ (λ i. not (right_list items i) && not (right_list (map string removed) i) && entries i)

lists_read : (profile : Profile) (nonce : List ℕ) (items : List Data) (removed : List (List ℕ)) → 1 ≤ length nonce → list_all is_object items ≡ true → list_all is_entry items ≡ true
    → response_of profile (message_of_lists nonce items (map string removed)) ≡ Some (record { kind = Some Eds; nonce = nonce; items = map (item_of profile Eds) items; removed = removed })
unfolding response_of
lists_read profile nonce items removed some objects entries =
    let tree : Data = message_of_lists nonce items (map string removed) in
    let kind : response_kind profile tree ≡ Some Eds = type_is profile nonce items (map string removed) in
    (λ i. given_if (head_is nonce items (map string removed) some i && has_lists_of (kind i) tree) (parts_of profile (kind i) (nonce_is nonce items (map string removed) i) tree))
    ∙ (λ i. given_if (lists_are nonce items removed objects entries i) (parts_of profile (Some Eds) nonce tree))
    ∙ (λ i. Some (record {
      kind = Some Eds;
      nonce = nonce;
      items = map (item_of profile Eds) (entries_are nonce items (map string removed) objects i);
      removed = removed_are nonce items removed i;
    }))

pub message_read : (profile : Profile) (prefix nonce version : List ℕ) (due : List DueParts) → 1 ≤ length nonce
    → response_of profile (following_message prefix nonce version due) ≡ Some (following_response profile prefix nonce version due)
message_read profile prefix nonce version due some =
    let items : List Data = filter_map (entry_due prefix version) due in
    ap (response_of profile) (message_is prefix nonce version due ∙ ap (message_of_lists (nonce ++ version) items) (names_are prefix due))
    ∙ lists_read profile (nonce ++ version) items (filter_map (name_left prefix) due) (omega (arith, length-append nonce version, some))
    (all_due is_object prefix version due (entry_object version)) (all_due is_entry prefix version due (entry_right version))
