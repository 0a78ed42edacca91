-- How deep the lines that a command makes nest.
use Rattle.std.proofs.Common.{◌≡◌, ℕ, zero, suc, ◌+◌, ◌≤◌, max, Bool, true, false, cond, List, [], ◌∷◌, ◌++◌, length, map, filter_map, Option, Some, None, is_some, option_map, option_and_then, unwrap_or, Ordering, Less, Equal, Greater, codes, ◌==◌, refl, ap, arith}
use Rattle.std.specs.Prelude.{All, IfSome}
use Rattle.std.specs.List.{list_any, list_all, cons_option}
use Rattle.std.proofs.lemmas.List.Elements.{All-nil, All-cons, All-head, All-tail, All-map, All-weaker}
use Rattle.std.specs.Ordering.{match_ordering, nat_cmp}
use Rattle.std.specs.Cmp.Lexicographic.{slice_cmp}
use Rattle.std.specs.Str.{bytes_eq}
use Rattle.serde_json.specs.Data.{Data, null, boolean, number, string, array, object, Items, no_items, item, Members, no_members, member, put, depth, items_depth, members_depth}
use Rattle.serde_json.specs.Find.{get, get_member}
use Rattle.serde_json.specs.View.{items_of}
use Rattle.ev_types.specs.declared.contents.Kind.{Kind}
use Rattle.ev_types.specs.declared.contents.Kind.TheVariants.{Cds, Eds}
use Rattle.ev_types.specs.declared.events.Profile.{Profile}
use Rattle.ev_tree.specs.declared.outcome.Found.{Found}
use Rattle.ev_tree.specs.declared.outcome.Found.TheVariants.{Absent, Wrong, Given}
use Rattle.ev_tree.specs.Spelling.{camel_of}
use Rattle.ev_tree.specs.Scalars.{list_in, elements_of}
use Rattle.ev_tree.specs.Forms.{is_object, inside, listed, present_member, value_or_absent, either_spelling, field_of, in_form, value_or_wrong, object_in, objects_in, object_of, objects_of}
use Rattle.ev_types.specs.Kinds.{type_url}
use Rattle.ev_wire.specs.Responses.{entries_of}
use Rattle.ev_expand.specs.Editing.{members_without, without, with_value}
use Rattle.ev_expand.specs.Fronts.{event_of, message_of}
use Rattle.ev_expand.specs.Guarding.{Guard, Guarded, listed_as, kind_of, clusters_in, place_at, private_name, waiting_config, stripped_body, waiting_body, body_in, waiting_entry, waiting_entries, response_tree, waiting_line}
use Rattle.ev_expand.specs.Following.{DueParts, endpoints_entry, entry_due, name_without, name_due, with_list, following_line}

-- ---- parts are less deep

member_depth_at : (o : Ordering) (e found : Data) (ms : Members) (rest : Option Data) → match_ordering o rest (Some e) rest ≡ Some found → (rest ≡ Some found → depth found ≤ members_depth ms)
    → depth found ≤ max (depth e) (members_depth ms)
member_depth_at Less e found ms rest h later = omega (arith, later h)
member_depth_at Equal e found ms rest h later = let same : e ≡ found = cc in omega (arith, ap depth same)
member_depth_at Greater e found ms rest h later = omega (arith, later h)

member_depth : (name : List ℕ) (ms : Members) (found : Data) → get_member name ms ≡ Some found → depth found ≤ members_depth ms
member_depth name no_members found h = absurd (cc)
member_depth name (member key e ms) found h = member_depth_at (slice_cmp nat_cmp name key) e found ms (get_member name ms) h (member_depth name ms found)

pub get_depth : (name : List ℕ) (tree found : Data) → get name tree ≡ Some found → depth found + 1 ≤ depth tree
get_depth name null found h = absurd (cc)
get_depth name (boolean b) found h = absurd (cc)
get_depth name (number n) found h = absurd (cc)
get_depth name (string s) found h = absurd (cc)
get_depth name (array ds) found h = absurd (cc)
get_depth name (object ms) found h = omega (arith, member_depth name ms found h)

-- a value that is found is no deeper than this
abbrev pub IsWithin : ℕ → Found Data → Type 0
IsWithin n Absent = Unit {0}
IsWithin n Wrong = Unit {0}
IsWithin n (Given tree) = depth tree ≤ n

present_within : (n : ℕ) (found : Option Data) → IfSome found (λ d. depth d ≤ n) → IfSome (present_member found) (λ d. depth d ≤ n)
present_within n None h = tt
present_within n (Some null) h = tt
present_within n (Some (boolean b)) h = h
present_within n (Some (number x)) h = h
present_within n (Some (string s)) h = h
present_within n (Some (array ds)) h = h
present_within n (Some (object ms)) h = h

get_within : (name : List ℕ) (tree : Data) (n : ℕ) → depth tree ≤ n + 1 → IfSome (get name tree) (λ d. depth d ≤ n)
get_within name tree n h = by (get name tree) refl
  where
    by : (found : Option Data) → get name tree ≡ found → IfSome found (λ d. depth d ≤ n)
    by None is = tt
    by (Some found) is = omega (arith, get_depth name tree found is, h)

absent_within : (n : ℕ) (found : Option Data) → IfSome found (λ d. depth d ≤ n) → IsWithin n (value_or_absent found)
absent_within n None h = tt
absent_within n (Some d) h = h

either_within : (n : ℕ) (first second : Option Data) → IfSome first (λ d. depth d ≤ n) → IfSome second (λ d. depth d ≤ n) → IsWithin n (either_spelling first second)
either_within n None second h k = absent_within n second k
either_within n (Some d) None h k = h
either_within n (Some d) (Some e) h k = tt

cond_within : (n : ℕ) (b : Bool) (first second : Found Data) → IsWithin n first → IsWithin n second → IsWithin n (cond b first second)
cond_within n true first second h k = h
cond_within n false first second h k = k

-- a field is less deep than its object
pub field_within : (name : List ℕ) (tree : Data) (n : ℕ) → depth tree ≤ n + 1 → IsWithin n (field_of name tree)
unfolding field_of
field_within name tree n h =
    let plain = present_within n (get name tree) (get_within name tree n h) in
    let camel = present_within n (get (camel_of name) tree) (get_within (camel_of name) tree n h) in
    cond_within n (bytes_eq (camel_of name) name) _ _ (absent_within n _ plain) (either_within n _ _ plain camel)

tested_within : (n : ℕ) (b : Bool) (tree : Data) → depth tree ≤ n → IsWithin n (value_or_wrong (cond b (Some tree) None))
tested_within n true tree h = h
tested_within n false tree h = tt

form_within : (n : ℕ) (found : Found Data) → IsWithin n found → IsWithin n (in_form object_in found)
form_within n Absent h = tt
form_within n Wrong h = tt
form_within n (Given tree) h = tested_within n (is_object tree) tree h

inside_within : (n : ℕ) (found : Found Data) → IsWithin n found → depth (inside found) ≤ n
inside_within n Absent h = omega arith
inside_within n Wrong h = omega arith
inside_within n (Given tree) h = h

pub object_within : (name : List ℕ) (tree : Data) (n : ℕ) → depth tree ≤ n + 1 → depth (inside (object_of name tree)) ≤ n
unfolding object_of
object_within name tree n h = inside_within n (in_form object_in (field_of name tree)) (form_within n (field_of name tree) (field_within name tree n h))

-- each of these trees is no deeper than this
abbrev pub AreWithin : ℕ → List Data → Type 0
AreWithin n trees = All (λ (tree : Data). depth tree ≤ n) trees

none_within : (n : ℕ) → AreWithin n []
none_within n = All-nil (λ (tree : Data). depth tree ≤ n)

elements_within : (n : ℕ) (ds : Items) → items_depth ds ≤ n → AreWithin n (elements_of ds)
elements_within n no_items h = none_within n
elements_within n (item d ds) h = All-cons (λ (tree : Data). depth tree ≤ n) d (elements_of ds) (omega arith) (elements_within n ds (omega arith))

list_within : (n : ℕ) (tree : Data) → depth tree ≤ n + 1 → IfSome (list_in tree) (AreWithin n)
unfolding list_in
list_within n null h = tt
list_within n (boolean b) h = tt
list_within n (number x) h = tt
list_within n (string s) h = tt
list_within n (array ds) h = elements_within n ds (omega arith)
list_within n (object ms) h = tt

tested_list : (n : ℕ) (b : Bool) (trees : List Data) → AreWithin n trees → AreWithin n (listed (value_or_wrong (cond b (Some trees) None)))
tested_list n true trees h = h
tested_list n false trees h = none_within n

some_list : (n : ℕ) (found : Option (List Data)) → IfSome found (AreWithin n) → AreWithin n (listed (value_or_wrong (option_and_then (λ ds. cond (list_all is_object ds) (Some ds) None) found)))
some_list n None h = none_within n
some_list n (Some trees) h = tested_list n (list_all is_object trees) trees h

found_list : (n : ℕ) (found : Found Data) → IsWithin (n + 1) found → AreWithin n (listed (in_form objects_in found))
found_list n Absent h = none_within n
found_list n Wrong h = none_within n
found_list n (Given tree) h = some_list n (list_in tree) (list_within n tree h)

-- the elements of a list of objects are less deep than the list
pub objects_within : (name : List ℕ) (tree : Data) (n : ℕ) → depth tree ≤ n + 2 → AreWithin n (listed (objects_of name tree))
unfolding objects_of
objects_within name tree n h = found_list n (field_of name tree) (field_within name tree (n + 1) (omega (arith, h)))

pub entries_within : (message : Data) (n : ℕ) → depth message ≤ n + 2 → AreWithin n (entries_of message)
unfolding entries_of
entries_within message n h = objects_within (codes "resources") message n h

default_within : (n : ℕ) (found : Option Data) → IfSome found (λ d. depth d ≤ n) → depth (unwrap_or found null) ≤ n
default_within n None h = omega arith
default_within n (Some d) h = h

pub message_within : (line : Data) (n : ℕ) → depth line ≤ n + 1 → depth (message_of line) ≤ n
message_within line n h = default_within n (get (codes "message") line) (get_within (codes "message") line n h)

pub body_within : (entry : Data) (n : ℕ) → depth entry ≤ n + 1 → depth (body_in entry) ≤ n
body_within entry n h = default_within n (get (codes "resource") entry) (get_within (codes "resource") entry n h)

-- ---- what is made of parts

chosen_depth : (o : Ordering) (a b c : Members) (n : ℕ) → members_depth a ≤ n → members_depth b ≤ n → members_depth c ≤ n → members_depth (match_ordering o a b c) ≤ n
chosen_depth Less a b c n p q r = p
chosen_depth Equal a b c n p q r = q
chosen_depth Greater a b c n p q r = r

pub put_depth : (k : List ℕ) (d : Data) (ms : Members) (n : ℕ) → depth d ≤ n → members_depth ms ≤ n → members_depth (put k d ms) ≤ n
put_depth k d no_members n p q = omega arith
put_depth k d (member l e ms) n p q =
    chosen_depth (slice_cmp nat_cmp k l) (member k d (member l e ms)) (member l d ms) (member l e (put k d ms)) n (omega arith) (omega arith)
    (omega (arith, put_depth k d ms n p (omega arith)))

pub with_depth : (name : List ℕ) (value tree : Data) (n : ℕ) → depth value + 1 ≤ n → depth tree ≤ n → depth (with_value name value tree) ≤ n
with_depth name value null n h k = k
with_depth name value (boolean b) n h k = k
with_depth name value (number x) n h k = k
with_depth name value (string s) n h k = k
with_depth name value (array ds) n h k = k
with_depth name value (object ms) zero h k = absurd (omega arith)
with_depth name value (object ms) (suc n) h k = omega (arith, put_depth name value ms n (omega arith) (omega arith))

left_depth : (b : Bool) (key : List ℕ) (d : Data) (ms kept : Members) (n : ℕ) → members_depth kept ≤ n → depth d ≤ n → members_depth (cond b kept (member key d kept)) ≤ n
left_depth true key d ms kept n h k = h
left_depth false key d ms kept n h k = omega arith

members_left : (name : List ℕ) (ms : Members) (n : ℕ) → members_depth ms ≤ n → members_depth (members_without name ms) ≤ n
members_left name no_members n h = h
members_left name (member key d ms) n h = left_depth (bytes_eq name key) key d ms (members_without name ms) n (members_left name ms n (omega arith)) (omega arith)

pub without_depth : (name : List ℕ) (tree : Data) (n : ℕ) → depth tree ≤ n → depth (without name tree) ≤ n
without_depth name null n h = h
without_depth name (boolean b) n h = h
without_depth name (number x) n h = h
without_depth name (string s) n h = h
without_depth name (array ds) n h = h
without_depth name (object ms) zero h = absurd (omega arith)
without_depth name (object ms) (suc n) h = omega (arith, members_left name ms n (omega arith))

pub items_within : (n : ℕ) (trees : List Data) → AreWithin n trees → items_depth (items_of trees) ≤ n
items_within n [] h = omega arith
items_within n (tree ∷ trees) h =
    omega (arith, All-head (λ (tree : Data). depth tree ≤ n) tree trees h, items_within n trees (All-tail (λ (tree : Data). depth tree ≤ n) tree trees h))

made_within : (n : ℕ) (make : Data → Data) → ((tree : Data) → depth tree ≤ n → depth (make tree) ≤ n) → (trees : List Data) → AreWithin n trees → AreWithin n (map make trees)
made_within n make each trees h =
    All-map (λ (tree : Data). depth tree ≤ n) make trees (All-weaker (λ (tree : Data). depth tree ≤ n) (λ (tree : Data). depth (make tree) ≤ n) each trees h)

-- ---- lines with guarded resources

config_depth : (name : List ℕ) → depth (waiting_config name) ≡ 3
config_depth name = refl

body_depth : (name : List ℕ) (body : Data) (n : ℕ) → 4 ≤ n → depth body ≤ n → depth (waiting_body name body) ≤ n
body_depth name body n few h =
    let stripped : depth (stripped_body body) ≤ n =
    without_depth (codes "eds_cluster_config") _ n (without_depth (codes "load_assignment") _ n (without_depth (codes "loadAssignment") body n h)) in
    let typed : depth (with_value (codes "type") (string (codes "EDS")) (stripped_body body)) ≤ n =
    with_depth (codes "type") (string (codes "EDS")) (stripped_body body) n (omega arith) stripped in
    with_depth (codes "edsClusterConfig") (waiting_config name) _ n (omega (arith, config_depth name)) typed

entry_depth : (prefix : List ℕ) (place : Option ℕ) (entry : Data) (n : ℕ) → 4 ≤ n → depth entry ≤ n + 1 → depth (waiting_entry prefix place entry) ≤ n + 1
entry_depth prefix None entry n few h = h
entry_depth prefix (Some place) entry n few h =
    with_depth (codes "resource") (waiting_body (private_name prefix place) (body_in entry)) entry (n + 1)
    (omega (arith, body_depth (private_name prefix place) (body_in entry) n few (body_within entry n h))) h

response_depth : (message : Data) → depth (response_tree message) ≤ depth message + 1
response_depth message = omega arith

listed_within : (kind : Option Kind) (message : Data) (n : ℕ) → depth message ≤ n + 2 → AreWithin n (listed_as kind message)
listed_within None message n h = none_within n
listed_within (Some Cds) message n h = entries_within message n h
listed_within (Some kind) message n h = none_within n

-- the resources of clusters of a line are less deep than it by three
pub clusters_within : (profile : Profile) (line : Data) (n : ℕ) → depth line ≤ n + 3 → AreWithin n (clusters_in profile line)
clusters_within profile line n h = listed_within (kind_of (event_of profile line)) (message_of line) n (message_within line (n + 2) (omega (arith, h)))

waiting_by : (b : Bool) (line message : Data) (n : ℕ) → depth message ≤ n → depth line ≤ n + 1 → depth (cond b (response_tree message) line) ≤ n + 1
waiting_by true line message n h k = omega (arith, response_depth message)
waiting_by false line message n h k = k

-- a line is no deeper as it waits
pub waiting_depth : (prefix : List ℕ) (guard : Guard) (gs : List Guarded) (line : Data) (n : ℕ) → 5 ≤ n → depth line ≤ n + 3 → depth (waiting_line prefix guard gs line) ≤ n + 3
waiting_depth prefix guard gs line zero few h = absurd (omega arith)
waiting_depth prefix guard gs line (suc m) few h =
    let message : Data = message_of line in
    let made : List Data = waiting_entries prefix guard gs line in
    let each : AreWithin (m + 1) made =
    made_within (m + 1) (λ (entry : Data). waiting_entry prefix (place_at guard gs entry) entry)
    (λ entry k. entry_depth prefix (place_at guard gs entry) entry m (omega arith) k) (clusters_in guard.profile line) (clusters_within guard.profile line (m + 1) (omega arith)) in
    let entries : depth (array (items_of made)) ≤ m + 2 = omega (arith, items_within (m + 1) made each) in
    let before : depth message ≤ m + 3 = message_within line (m + 3) (omega arith) in
    let after : depth (with_value (codes "resources") (array (items_of made)) message) ≤ m + 3 = with_depth (codes "resources") (array (items_of made)) message (m + 3) (omega arith) before in
    let whole = waiting_by (list_any (λ (entry : Data). is_some (guard.key_of entry)) (clusters_in guard.profile line)) line (with_value (codes "resources") (array (items_of made)) message) (m + 3) after (omega arith) in
    omega (arith, whole)

-- ---- lines that follow

list_depth : (b : Bool) (name : List ℕ) (values : List Data) (ms : Members) (n : ℕ) → depth (array (items_of values)) ≤ n → members_depth ms ≤ n
    → members_depth (cond b ms (put name (array (items_of values)) ms)) ≤ n
list_depth true name values ms n h k = k
list_depth false name values ms n h k = put_depth name (array (items_of values)) ms n h k

due_depth : (version name : List ℕ) (endpoints : Data) → depth (endpoints_entry version name endpoints) ≤ depth endpoints + 2
due_depth version name endpoints = omega arith

-- the endpoints of each of these are no deeper than this
abbrev pub DueWithin : ℕ → List DueParts → Type 0
DueWithin n due = All (λ (d : DueParts). IfSome d.endpoints (λ endpoints. depth endpoints ≤ n)) due

due_put : (n : ℕ) (version name : List ℕ) (found : Option Data) (trees : List Data) → IfSome found (λ endpoints. depth endpoints ≤ n) → AreWithin (n + 2) trees
    → AreWithin (n + 2) (cons_option (option_map (endpoints_entry version name) found) trees)
due_put n version name None trees h all = all
due_put n version name (Some endpoints) trees h all =
    All-cons (λ (tree : Data). depth tree ≤ n + 2) (endpoints_entry version name endpoints) trees (omega (arith, due_depth version name endpoints, h)) all

due_within : (n : ℕ) (prefix version : List ℕ) (due : List DueParts) → DueWithin n due → AreWithin (n + 2) (filter_map (entry_due prefix version) due)
due_within n prefix version [] h = none_within (n + 2)
due_within n prefix version (d ∷ due) h =
    let P : DueParts → Type 0 = λ d. IfSome d.endpoints (λ endpoints. depth endpoints ≤ n) in
    due_put n version (private_name prefix d.place) d.endpoints (filter_map (entry_due prefix version) due) (All-head P d due h)
    (due_within n prefix version due (All-tail P d due h))

name_put : (n : ℕ) (name : List ℕ) (found : Option Data) (trees : List Data) → AreWithin n trees → AreWithin n (cons_option (name_without name found) trees)
name_put n name None trees all = All-cons (λ (tree : Data). depth tree ≤ n) (string name) trees (omega arith) all
name_put n name (Some endpoints) trees all = all

names_within : (n : ℕ) (prefix : List ℕ) (due : List DueParts) → AreWithin n (filter_map (name_due prefix) due)
names_within n prefix [] = none_within n
names_within n prefix (d ∷ due) = name_put n (private_name prefix d.place) d.endpoints (filter_map (name_due prefix) due) (names_within n prefix due)

-- a line that follows is deeper than the endpoints in it by five
pub following_depth : (prefix nonce version : List ℕ) (due : List DueParts) (n : ℕ) → DueWithin n due → depth (following_line prefix nonce version due) ≤ n + 5
following_depth prefix nonce version due n h =
    let items : List Data = filter_map (entry_due prefix version) due in
    let removed : List Data = filter_map (name_due prefix) due in
    let base : Members = put (codes "typeUrl") (string (type_url Eds)) (put (codes "nonce") (string (nonce ++ version)) no_members) in
    let first : members_depth (with_list (codes "removedResources") removed base) ≤ n + 3 =
    list_depth (length removed == 0) (codes "removedResources") removed base (n + 3) (omega (arith, items_within (n + 2) removed (names_within (n + 2) prefix due))) (omega arith) in
    let second : members_depth (with_list (codes "resources") items (with_list (codes "removedResources") removed base)) ≤ n + 3 =
    list_depth (length items == 0) (codes "resources") items _ (n + 3) (omega (arith, items_within (n + 2) items (due_within n prefix version due h))) first in
    omega (arith, response_depth (object (with_list (codes "resources") items (with_list (codes "removedResources") removed base))))
