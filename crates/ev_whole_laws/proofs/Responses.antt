-- Responses.
use Rattle.std.proofs.Common.{◌∙◌, ap, refl}
use Rattle.std.specs.Prelude.{◌≡◌, ℕ, ◌&&◌, ◌==◌, List, [], map, length, not, Option, Some, None, codes}
use Rattle.std.specs.List.{list_all}
use Rattle.serde_json.specs.Data.{Data}
use Rattle.ev_types.specs.declared.events.Profile.{Profile}
use Rattle.ev_types.specs.declared.contents.Kind.{Kind}
use Rattle.ev_tree.specs.Forms.{is_wrong, given_or, listed, text_in, field_of, texts_of}
use Rattle.ev_wire.specs.Kinds.{kind_with}
use Rattle.ev_wire.specs.Bodies.{is_positive, body_of}
use Rattle.ev_wire.specs.Responses.{entry_name, ttl_of, is_entry, item_of, response_kind, nonce_of, entries_of, removed_of, has_head, has_lists, has_lists_of, is_response, parts_of, given_if, response_of}
use Rattle.ev_tree.specs.Floats.{whole}
use Rattle.ev_whole_laws.proofs.Bodies.{body_of-whole}
use Rattle.ev_whole_laws.proofs.Forms.{duration_of-whole, field_of-whole, is_object-whole, listed-objects, listed-texts, objects-is_wrong, text_in-whole, text_of-whole, texts-is_wrong}
use Rattle.ev_whole_laws.proofs.Parts.{list_all-whole, map-whole}

pub entry_name-whole : (entry : Data) → entry_name (whole entry) ≡ entry_name entry
entry_name-whole entry = λ i. given_or [] (text_of-whole (codes "name") entry i)

pub ttl_of-whole : (entry : Data) → ttl_of (whole entry) ≡ ttl_of entry
unfolding ttl_of
ttl_of-whole entry = λ i. duration_of-whole (codes "ttl") entry i

pub is_entry-whole : (entry : Data) → is_entry (whole entry) ≡ is_entry entry
unfolding is_entry
is_entry-whole entry = λ i. not (is_wrong (text_of-whole (codes "name") entry i)) && not (is_wrong (text_of-whole (codes "version") entry i))

pub item_of-whole : (profile : Profile) (kind : Kind) (entry : Data) → item_of profile kind (whole entry) ≡ item_of profile kind entry
unfolding item_of
item_of-whole profile kind entry = λ i. record {
  name = entry_name-whole entry i;
  version = given_or [] (text_of-whole (codes "version") entry i);
  ttl = is_positive (ttl_of-whole entry i);
  body = body_by i;
}
  where
    body_by : body_of profile kind (entry_name (whole entry)) (ttl_of (whole entry)) (field_of (codes "resource") (whole entry))
        ≡ body_of profile kind (entry_name entry) (ttl_of entry) (field_of (codes "resource") entry)
    body_by =
        (λ i. body_of profile kind (entry_name-whole entry i) (ttl_of-whole entry i) (field_of-whole (codes "resource") entry i))
        ∙ body_of-whole profile kind (entry_name entry) (ttl_of entry) (field_of (codes "resource") entry)

pub response_kind-whole : (profile : Profile) (tree : Data) → response_kind profile (whole tree) ≡ response_kind profile tree
unfolding response_kind
response_kind-whole profile tree = λ i. kind_with profile (given_or [] (text_of-whole (codes "type_url") tree i))

pub nonce_of-whole : (tree : Data) → nonce_of (whole tree) ≡ nonce_of tree
unfolding nonce_of
nonce_of-whole tree = λ i. given_or [] (text_of-whole (codes "nonce") tree i)

pub entries_of-whole : (tree : Data) → entries_of (whole tree) ≡ map whole (entries_of tree)
unfolding entries_of
entries_of-whole tree = listed-objects (codes "resources") tree

pub removed_of-whole : (tree : Data) → removed_of (whole tree) ≡ removed_of tree
unfolding removed_of
removed_of-whole tree = λ i. (ap (map text_in) (listed-texts (codes "removed_resources") tree) ∙ map-whole text_in text_in-whole (listed (texts_of (codes "removed_resources") tree))) i

pub has_head-whole : (tree : Data) → has_head (whole tree) ≡ has_head tree
unfolding has_head
has_head-whole tree = λ i. is_object-whole tree i && not (is_wrong (text_of-whole (codes "type_url") tree i)) && not (length (nonce_of-whole tree i) == 0)

pub has_lists-whole : (tree : Data) → has_lists (whole tree) ≡ has_lists tree
unfolding has_lists
has_lists-whole tree = λ i. not (objects-is_wrong (codes "resources") tree i) && not (texts-is_wrong (codes "removed_resources") tree i) && (ap (list_all is_entry) (entries_of-whole tree) ∙ list_all-whole is_entry is_entry-whole (entries_of tree)) i

pub has_lists_of-whole : (kind : Option Kind) (tree : Data) → has_lists_of kind (whole tree) ≡ has_lists_of kind tree
has_lists_of-whole None tree = refl
has_lists_of-whole (Some kind) tree = has_lists-whole tree

pub is_response-whole : (profile : Profile) (tree : Data) → is_response profile (whole tree) ≡ is_response profile tree
is_response-whole profile tree = λ i. has_head-whole tree i && lists_by i
  where
    lists_by : has_lists_of (response_kind profile (whole tree)) (whole tree) ≡ has_lists_of (response_kind profile tree) tree
    lists_by = (λ i. has_lists_of (response_kind-whole profile tree i) (whole tree)) ∙ has_lists_of-whole (response_kind profile tree) tree

pub parts_of-whole : (profile : Profile) (kind : Option Kind) (nonce : List ℕ) (tree : Data) → parts_of profile kind nonce (whole tree) ≡ parts_of profile kind nonce tree
parts_of-whole profile None nonce tree = refl
parts_of-whole profile (Some kind) nonce tree = λ i. record {
  kind = Some kind;
  nonce = nonce;
  items = (ap (map (item_of profile kind)) (entries_of-whole tree) ∙ map-whole (item_of profile kind) (item_of-whole profile kind) (entries_of tree)) i;
  removed = removed_of-whole tree i;
}

pub response_of-whole : (profile : Profile) (tree : Data) → response_of profile (whole tree) ≡ response_of profile tree
unfolding response_of
response_of-whole profile tree = λ i. given_if (is_response-whole profile tree i) (parts_by i)
  where
    parts_by : parts_of profile (response_kind profile (whole tree)) (nonce_of (whole tree)) (whole tree) ≡ parts_of profile (response_kind profile tree) (nonce_of tree) tree
    parts_by =
        (λ i. parts_of profile (response_kind-whole profile tree i) (nonce_of-whole tree i) (whole tree)) ∙ parts_of-whole profile (response_kind profile tree) (nonce_of tree) tree
