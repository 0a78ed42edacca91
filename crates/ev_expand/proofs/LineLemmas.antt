-- A response of clusters with other resources in it is read as the response of these.
use Rattle.std.proofs.Common.{◌≡◌, ◌∙◌, ℕ, Bool, true, false, true≢false, not, ◌&&◌, ◌==◌, cond, List, [], ◌∷◌, map, length, Option, Some, None, option_map, option_and_then, codes, refl, sym, ap, ap₂}
use Rattle.std.specs.List.{list_any, list_all}
use Rattle.std.specs.Str.{bytes_eq}
use Rattle.serde_json.specs.Data.{Data, array}
use Rattle.serde_json.specs.View.{items_of}
use Rattle.ev_types.specs.Items.{ResponseParts}
use Rattle.ev_types.specs.declared.contents.Kind.{Kind}
use Rattle.ev_types.specs.declared.contents.Kind.TheVariants.{Cds}
use Rattle.ev_types.specs.declared.events.Actor.TheVariants.{Stream}
use Rattle.ev_types.specs.declared.events.Event.{Event}
use Rattle.ev_types.specs.declared.events.Event.TheVariants.{Response}
use Rattle.ev_types.specs.declared.events.Profile.{Profile}
use Rattle.ev_tree.specs.declared.outcome.Found.{Found}
use Rattle.ev_tree.specs.declared.outcome.Found.TheVariants.{Absent, Wrong, Given}
use Rattle.ev_tree.specs.Spelling.{camel_of}
use Rattle.ev_tree.specs.Scalars.{list_in}
use Rattle.ev_tree.specs.Forms.{is_object, is_wrong, given_or, listed, text_in, field_of, in_form, value_or_wrong, objects_in, text_of, objects_of, texts_of}
use Rattle.ev_tree.proofs.Elements.{elements_of-items_of}
use Rattle.ev_wire.specs.Kinds.{kind_with}
use Rattle.ev_wire.specs.Responses.{is_entry, item_of, response_kind, nonce_of, entries_of, removed_of, has_head, has_lists, has_lists_of, is_response, parts_of, given_if, response_of}
use Rattle.ev_script.specs.LineForms.{line_at}
use Rattle.ev_script.specs.Lines.{line_of}
use Rattle.ev_expand.specs.Editing.{with_value}
use Rattle.ev_expand.specs.Fronts.{event_of, message_of}
use Rattle.ev_expand.specs.Guarding.{kind_of, listed_as, clusters_in, response_tree}
use Rattle.ev_expand.proofs.FieldLemmas.{IsOther, field_with, field_with_other, text_by, texts_by, object_with}

-- ---- tests of lists

pub and_first : (a b : Bool) → (a && b) ≡ true → a ≡ true
and_first true b h = refl
and_first false b h = h

pub and_last : (a b : Bool) → (a && b) ≡ true → b ≡ true
and_last true b h = h
and_last false b h = absurd (true≢false (sym h))

-- what holds of each element holds of what is made of each
pub all_made : (p : Data → Bool) (make : Data → Data) → ((tree : Data) → p tree ≡ true → p (make tree) ≡ true) → (trees : List Data) → list_all p trees ≡ true → list_all p (map make trees) ≡ true
all_made p make keeps [] all = refl
all_made p make keeps (tree ∷ trees) all =
    ap₂ (λ (a b : Bool). a && b) (keeps tree (and_first (p tree) (list_all p trees) all)) (all_made p make keeps trees (and_last (p tree) (list_all p trees) all))

-- a list of objects, as a field
pub objects_given : (trees : List Data) → list_all is_object trees ≡ true → in_form objects_in (Given (array (items_of trees))) ≡ Given trees
unfolding list_in
objects_given trees all =
    ap (λ (ds : List Data). value_or_wrong (cond (list_all is_object ds) (Some ds) None)) (elements_of-items_of trees)
    ∙ ap (λ (b : Bool). value_or_wrong (cond b (Some trees) None)) all

tested_objects : (test : Bool) (trees : List Data) → list_all is_object trees ≡ test → list_all is_object (listed (value_or_wrong (cond test (Some trees) None))) ≡ true
tested_objects true trees is = is
tested_objects false trees is = refl

list_objects : (found : Option (List Data)) → list_all is_object (listed (value_or_wrong (option_and_then (λ ds. cond (list_all is_object ds) (Some ds) None) found))) ≡ true
list_objects None = refl
list_objects (Some trees) = tested_objects (list_all is_object trees) trees refl

found_objects : (found : Found Data) → list_all is_object (listed (in_form objects_in found)) ≡ true
found_objects Absent = refl
found_objects Wrong = refl
found_objects (Given tree) = list_objects (list_in tree)

-- resources are objects
pub entries_objects : (tree : Data) → list_all is_object (entries_of tree) ≡ true
unfolding entries_of objects_of
entries_objects tree = found_objects (field_of (codes "resources") tree)

-- ---- resources that wait

keeps_name : IsOther (codes "name") (codes "resource")
unfolding camel_of
keeps_name = record { plain = refl; camel = refl }

keeps_version : IsOther (codes "version") (codes "resource")
unfolding camel_of
keeps_version = record { plain = refl; camel = refl }

pub entry_with : (body entry : Data) → is_entry (with_value (codes "resource") body entry) ≡ is_entry entry
unfolding is_entry
entry_with body entry =
    let made : Data = with_value (codes "resource") body entry in
    λ i. not (is_wrong (text_by (codes "name") entry made (field_with_other (codes "name") (codes "resource") body entry keeps_name) i))
    && not (is_wrong (text_by (codes "version") entry made (field_with_other (codes "version") (codes "resource") body entry keeps_version) i))

-- ---- messages with other resources

keeps_type_url : IsOther (codes "type_url") (codes "resources")
unfolding camel_of
keeps_type_url = record { plain = refl; camel = refl }

keeps_nonce : IsOther (codes "nonce") (codes "resources")
unfolding camel_of
keeps_nonce = record { plain = refl; camel = refl }

keeps_removed : IsOther (codes "removed_resources") (codes "resources")
unfolding camel_of
keeps_removed = record { plain = refl; camel = refl }

one_spelling : bytes_eq (camel_of (codes "resources")) (codes "resources") ≡ true
unfolding camel_of
one_spelling = refl

-- a message with these resources
abbrev pub message_with : List Data → Data → Data
message_with entries message = with_value (codes "resources") (array (items_of entries)) message

type_with : (entries : List Data) (message : Data) → text_of (codes "type_url") (message_with entries message) ≡ text_of (codes "type_url") message
type_with entries message =
    text_by (codes "type_url") message (message_with entries message) (field_with_other (codes "type_url") (codes "resources") (array (items_of entries)) message keeps_type_url)

kind_same : (profile : Profile) (entries : List Data) (message : Data) → response_kind profile (message_with entries message) ≡ response_kind profile message
unfolding response_kind
kind_same profile entries message = ap (λ (f : Found (List ℕ)). kind_with profile (given_or [] f)) (type_with entries message)

nonce_same : (entries : List Data) (message : Data) → nonce_of (message_with entries message) ≡ nonce_of message
unfolding nonce_of
nonce_same entries message =
    ap (given_or []) (text_by (codes "nonce") message (message_with entries message) (field_with_other (codes "nonce") (codes "resources") (array (items_of entries)) message keeps_nonce))

head_same : (entries : List Data) (message : Data) → has_head (message_with entries message) ≡ has_head message
unfolding has_head
head_same entries message = λ i.
    object_with (codes "resources") (array (items_of entries)) message i && not (is_wrong (type_with entries message i)) && not (length (nonce_same entries message i) == 0)

removed_with : (entries : List Data) (message : Data) → texts_of (codes "removed_resources") (message_with entries message) ≡ texts_of (codes "removed_resources") message
removed_with entries message =
    texts_by (codes "removed_resources") message (message_with entries message)
    (field_with_other (codes "removed_resources") (codes "resources") (array (items_of entries)) message keeps_removed)

removed_same : (entries : List Data) (message : Data) → removed_of (message_with entries message) ≡ removed_of message
unfolding removed_of
removed_same entries message = ap (λ (f : Found (List Data)). map text_in (listed f)) (removed_with entries message)

entries_given : (entries : List Data) (message : Data) → is_object message ≡ true → list_all is_object entries ≡ true
    → objects_of (codes "resources") (message_with entries message) ≡ Given entries
unfolding objects_of
entries_given entries message is all =
    ap (in_form objects_in) (field_with (codes "resources") (array (items_of entries)) message one_spelling is) ∙ objects_given entries all

entries_with : (entries : List Data) (message : Data) → is_object message ≡ true → list_all is_object entries ≡ true → entries_of (message_with entries message) ≡ entries
unfolding entries_of
entries_with entries message is all = ap listed (entries_given entries message is all)

right_removed : (tree : Data) → has_lists tree ≡ true → is_wrong (texts_of (codes "removed_resources") tree) ≡ false
unfolding has_lists
right_removed tree h = not_true _ (and_last _ _ (and_first _ (list_all is_entry (entries_of tree)) h))
  where
    not_true : (b : Bool) → not b ≡ true → b ≡ false
    not_true true h = absurd (true≢false (sym h))
    not_true false h = refl

all_entries : (tree : Data) → has_lists tree ≡ true → list_all is_entry (entries_of tree) ≡ true
unfolding has_lists
all_entries tree h = and_last _ (list_all is_entry (entries_of tree)) h

lists_with : (entries : List Data) (message : Data) → is_object message ≡ true → has_lists message ≡ true → list_all is_object entries ≡ true → list_all is_entry entries ≡ true
    → has_lists (message_with entries message) ≡ true
unfolding has_lists
lists_with entries message is lists objects items =
    (λ i. not (is_wrong (entries_given entries message is objects i)) && not (is_wrong (removed_with entries message i)) && list_all is_entry (entries_with entries message is objects i))
    ∙ (λ i. not (right_removed message lists i) && items i)

-- ---- the response

pub given_some : {A : Type 0} (test : Bool) (x y : A) → given_if test x ≡ Some y → (test ≡ true) × (x ≡ y)
given_some true x y h = (refl, cc)
given_some false x y h = absurd (cc)

head_object : (message : Data) → has_head message ≡ true → is_object message ≡ true
unfolding has_head
head_object message h = and_first _ _ (and_first _ (not (length (nonce_of message) == 0)) h)

parts_kind : (profile : Profile) (kind : Option Kind) (nonce : List ℕ) (message : Data) → (parts_of profile kind nonce message).kind ≡ kind
parts_kind profile None nonce message = refl
parts_kind profile (Some kind) nonce message = refl

-- a response of this kind, as a profile reads it
pub record IsOfKind (profile : Profile) (kind : Kind) (message : Data) : Type 0 where
  pub head : has_head message ≡ true
  pub lists : has_lists message ≡ true
  pub typed : response_kind profile message ≡ Some kind

pub of_kind : (profile : Profile) (kind : Kind) (message : Data) (response : ResponseParts) → response_of profile message ≡ Some response → response.kind ≡ Some kind
    → IsOfKind profile kind message × (parts_of profile (Some kind) (nonce_of message) message ≡ response)
unfolding response_of
of_kind profile kind message response e h =
    let given = given_some (is_response profile message) (parts_of profile (response_kind profile message) (nonce_of message) message) response e in
    let same : response_kind profile message ≡ Some kind =
    sym (parts_kind profile (response_kind profile message) (nonce_of message) message) ∙ ap (λ (r : ResponseParts). r.kind) given.1 ∙ h in (
      record {
        head = and_first (has_head message) _ given.0;
        lists = sym (ap (λ (k : Option Kind). has_lists_of k message) same) ∙ and_last (has_head message) _ given.0;
        typed = same;
      },
      sym (ap (λ (k : Option Kind). parts_of profile k (nonce_of message) message) same) ∙ given.1,
    )

-- a message with other resources is read as the response with these
response_with : (profile : Profile) (kind : Kind) (entries : List Data) (message : Data) → IsOfKind profile kind message → list_all is_object entries ≡ true → list_all is_entry entries ≡ true
    → response_of profile (message_with entries message) ≡ Some (record (parts_of profile (Some kind) (nonce_of message) message) { items = map (item_of profile kind) entries })
unfolding response_of
response_with profile kind entries message is objects items =
    let made : Data = message_with entries message in
    let same : response_kind profile made ≡ Some kind = kind_same profile entries message ∙ is.typed in
    let object : is_object message ≡ true = head_object message is.head in
    (λ i. given_if ((head_same entries message ∙ is.head) i && has_lists_of (same i) made) (parts_of profile (same i) (nonce_same entries message i) made))
    ∙ (λ i. given_if (lists_with entries message object is.lists objects items i) (parts_of profile (Some kind) (nonce_of message) made))
    ∙ (λ i. Some (record {
      kind = Some kind;
      nonce = nonce_of message;
      items = map (item_of profile kind) (entries_with entries message object objects i);
      removed = removed_same entries message i;
    }))

-- the same of the response itself
pub response_becomes : (profile : Profile) (kind : Kind) (entries : List Data) (message : Data) (response : ResponseParts) → response_of profile message ≡ Some response → response.kind ≡ Some kind
    → list_all is_object entries ≡ true → list_all is_entry entries ≡ true
    → response_of profile (message_with entries message) ≡ Some (record response { items = map (item_of profile kind) entries })
response_becomes profile kind entries message response e h objects items =
    let of = of_kind profile kind message response e h in
    response_with profile kind entries message of.0 objects items ∙ ap (λ (r : ResponseParts). Some (record r { items = map (item_of profile kind) entries })) of.1

pub entries_right : (profile : Profile) (kind : Kind) (message : Data) (response : ResponseParts) → response_of profile message ≡ Some response → response.kind ≡ Some kind
    → list_all is_entry (entries_of message) ≡ true
entries_right profile kind message response e h = all_entries message (of_kind profile kind message response e h).0.lists

-- a line that is made of a message
pub line_made : (profile : Profile) (at : ℕ) (message : Data) → line_of profile at (response_tree message) ≡ line_at at Stream (option_map (λ response. Response response) (response_of profile message))
line_made profile at message = refl

-- ---- lines with resources of clusters

clusters_kind : (test : Data → Bool) (kind : Option Kind) (message : Data) → list_any test (listed_as kind message) ≡ true → kind ≡ Some Cds
clusters_kind test None message h = absurd (true≢false (sym h))
clusters_kind test (Some Cds) message h = refl
clusters_kind test (Some kind) message h = absurd (true≢false (sym h))

-- the event is a response of clusters
pub record IsOfClusters (event : Option Event) : Type 0 where
  pub response : ResponseParts
  pub is : event ≡ Some (Response response)
  pub kind : response.kind ≡ Some Cds

clusters_event : (test : Data → Bool) (event : Option Event) (message : Data) → list_any test (listed_as (kind_of event) message) ≡ true → IsOfClusters event
clusters_event test None message h = absurd (true≢false (sym h))
clusters_event test (Some (Response response)) message h = record { response = response; is = refl; kind = clusters_kind test response.kind message h }
clusters_event test (Some event) message h = absurd (true≢false (sym h))

pub line_of_clusters : (profile : Profile) (test : Data → Bool) (line : Data) → list_any test (clusters_in profile line) ≡ true → IsOfClusters (event_of profile line)
line_of_clusters profile test line h = clusters_event test (event_of profile line) (message_of line) h
