-- Responses: a DeltaDiscoveryResponse by the proto3 JSON mapping, of the xDS transport protocol, in this
-- project's profile. All fields but those named here are passed over.
use Rattle.std.specs.Prelude.{◌≡◌, ℕ, ◌&&◌, ◌==◌, List, [], map, length, Bool, true, not, if◌then◌else◌, Option, Some, None, Result, Ok, Err, codes, ⊤}
use Rattle.std.specs.List.{list_all}
use Rattle.serde_json.specs.Data.{Data}
use Rattle.ev_types.specs.declared.events.Profile.{Profile}
use Rattle.ev_types.specs.declared.contents.Kind.{Kind}
use Rattle.ev_types.specs.Items.{ItemParts, ResponseParts}
use Rattle.ev_tree.specs.declared.outcome.Found.{Found}
use Rattle.ev_tree.specs.declared.span.Span.{Span}
use Rattle.ev_tree.specs.Forms.{is_object, is_wrong, given_or, listed, text_in, field_of, text_of, duration_of, objects_of, texts_of}
use Rattle.ev_wire.specs.declared.responses.Head.{Head}
use Rattle.ev_wire.specs.declared.outcome.WireError.{WireError}
use Rattle.ev_wire.specs.declared.outcome.WireError.TheVariants.{NotResponse, OutOfMemory}
use Rattle.ev_wire.specs.Kinds.{kind_with}
use Rattle.ev_wire.specs.Bodies.{is_positive, body_of}

-- ---- a resource of a response

abbrev pub entry_name : Data → List ℕ
entry_name entry = given_or [] (text_of (codes "name") entry)

-- how long it lives
unfoldable pub ttl_of : Data → Found Span
ttl_of entry = duration_of (codes "ttl") entry

-- Its name and its version are texts, where they are given. Its body and its time to live may be anything: rules judge
-- them.
unfoldable pub is_entry : Data → Bool
is_entry entry = not (is_wrong (text_of (codes "name") entry)) && not (is_wrong (text_of (codes "version") entry))

unfoldable pub item_of : Profile → Kind → Data → ItemParts
item_of profile kind entry = record {
  name = entry_name entry;
  version = given_or [] (text_of (codes "version") entry);
  ttl = is_positive (ttl_of entry);
  body = body_of profile kind (entry_name entry) (ttl_of entry) (field_of (codes "resource") entry);
}

-- ---- the message

-- the kind of resource, where the profile reads it
unfoldable pub response_kind : Profile → Data → Option Kind
response_kind profile tree = kind_with profile (given_or [] (text_of (codes "type_url") tree))

unfoldable pub nonce_of : Data → List ℕ
nonce_of tree = given_or [] (text_of (codes "nonce") tree)

unfoldable pub entries_of : Data → List Data
entries_of tree = listed (objects_of (codes "resources") tree)

unfoldable pub removed_of : Data → List (List ℕ)
removed_of tree = map text_in (listed (texts_of (codes "removed_resources") tree))

-- an object with a nonce, whose type URL is a text where it is given
unfoldable pub has_head : Data → Bool
has_head tree =
    is_object tree
    && not (is_wrong (text_of (codes "type_url") tree))
    && not (length (nonce_of tree) == 0)

-- its resources are objects and the removed names are texts, where they are given
unfoldable pub has_lists : Data → Bool
has_lists tree =
    not (is_wrong (objects_of (codes "resources") tree))
    && not (is_wrong (texts_of (codes "removed_resources") tree))
    && list_all is_entry (entries_of tree)

-- the lists are looked at where the type is read
abbrev pub has_lists_of : Option Kind → Data → Bool
has_lists_of None tree = true
has_lists_of (Some kind) tree = has_lists tree

abbrev pub is_response : Profile → Data → Bool
is_response profile tree = has_head tree && has_lists_of (response_kind profile tree) tree

-- the response of this type and nonce
abbrev pub parts_of : Profile → Option Kind → List ℕ → Data → ResponseParts
parts_of profile None nonce tree = record { kind = None; nonce = nonce; items = []; removed = [] }
parts_of profile (Some kind) nonce tree = record {
  kind = Some kind;
  nonce = nonce;
  items = map (item_of profile kind) (entries_of tree);
  removed = removed_of tree;
}

-- a value, where a test holds
abbrev pub given_if : {A : Type 0} → Bool → A → Option A
given_if test value = if test then Some value else None

-- the resources that these entries are, or none where one of them isn't one
abbrev pub items_in : Profile → Kind → List Data → Option (List ItemParts)
items_in profile kind entries = given_if (list_all is_entry entries) (map (item_of profile kind) entries)

-- the type and the nonce of the response that a tree is, or none where it lacks them
abbrev pub head_of : Profile → Data → Option Head
head_of profile tree = given_if (has_head tree) (record { kind = response_kind profile tree; nonce = nonce_of tree })

-- the response that a tree is, or none where it isn't one
unfoldable pub response_of : Profile → Data → Option ResponseParts
response_of profile tree = given_if (is_response profile tree) (parts_of profile (response_kind profile tree) (nonce_of tree) tree)

-- ---- what a reader answers

-- A value, or that there is none. Running out of memory says nothing.
abbrev pub Reads : {A : Type 0} → Result A WireError → Option A → Type 0
Reads (Ok value) reading = reading ≡ Some value
Reads (Err NotResponse) reading = reading ≡ None
Reads (Err OutOfMemory) reading = ⊤
