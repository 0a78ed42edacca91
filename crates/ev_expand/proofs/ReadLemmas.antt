-- What the lines that a command makes are read as.
use Rattle.std.proofs.Common.{◌≡◌, ◌∙◌, ℕ, ◌≤◌, ◌⊎◌, inl, inr, Bool, true, false, cond, List, [], ◌∷◌, length, map, filter_map, Option, Some, None, is_some, option_map, codes, refl, sym, ap, ap₂}
use Rattle.std.specs.List.{list_all}
use Rattle.serde_json.specs.Data.{Data, string}
use Rattle.ev_types.specs.declared.clusters.Cluster.{Cluster}
use Rattle.ev_types.specs.Items.{ItemParts, ResponseParts}
use Rattle.ev_types.specs.declared.contents.Kind.{Kind}
use Rattle.ev_types.specs.declared.contents.Kind.TheVariants.{Cds}
use Rattle.ev_types.specs.declared.events.Actor.TheVariants.{Stream}
use Rattle.ev_types.specs.declared.events.Event.{Event}
use Rattle.ev_types.specs.declared.events.Event.TheVariants.{Response}
use Rattle.ev_types.specs.declared.events.Profile.{Profile}
use Rattle.ev_tree.specs.Forms.{is_object}
use Rattle.ev_cluster_json.specs.Clusters.{has_custom_type}
use Rattle.ev_wire.specs.Responses.{entry_name, is_entry, item_of, entries_of, response_of}
use Rattle.ev_script.specs.LineForms.{line_at}
use Rattle.ev_script.specs.Lines.{line_of}
use Rattle.ev_expand.specs.declared.keys.Key.{Key}
use Rattle.ev_expand.specs.Editing.{with_value}
use Rattle.ev_expand.specs.Fronts.{event_of, message_of}
use Rattle.ev_expand.specs.Guarding.{Guard, Guarded, kind_of, items_as, items_by, listed_as, clusters_in, place_in, place_at, private_name, body_in, waiting_body, waiting_entry, waiting_entries, waiting_line, response_tree}
use Rattle.ev_expand.specs.Following.{DueParts, following_line}
use Rattle.ev_expand.proofs.EventLemmas.{response_read, cluster_items_read}
use Rattle.ev_expand.specs.Waiting.{IsShortPrefix, IsClusterWith, IsOfCluster, static_body, waiting_item, waiting_response, has_guarded, name_with, following_response, names_in, IsStreamLine, ResourcesWait, LinesWait, LinesFollow}
use Rattle.ev_expand.proofs.FieldLemmas.{object_with}
use Rattle.ev_expand.proofs.WaitLemmas.{typed_keeps}
use Rattle.ev_expand.proofs.ItemLemmas.{kept_entry_name, item_waits, keeps_itself}
use Rattle.ev_expand.proofs.LineLemmas.{all_made, entry_with, entries_objects, entries_right, message_with, response_becomes, line_made, IsOfClusters, line_of_clusters}
use Rattle.ev_expand.proofs.FollowedLemmas.{following_message, message_read, names_given}

-- ---- guarded resources

-- a guarded resource waits: it is read as its cluster, with endpoints by its private name and without limit
waits_by : (profile : Profile) (prefix : List ℕ) (place : ℕ) (entry : Data) (cluster : Cluster) → IsShortPrefix prefix → has_custom_type (body_in entry) ≡ false
    → IsClusterWith profile entry cluster (body_in entry) ⊎ IsClusterWith profile entry cluster (static_body (body_in entry))
    → item_of profile Cds (waiting_entry prefix (Some place) entry) ≡ waiting_item profile prefix place cluster entry
waits_by profile prefix place entry cluster short none (inl good) = item_waits profile prefix place entry (body_in entry) cluster short (keeps_itself (body_in entry)) none good
waits_by profile prefix place entry cluster short none (inr good) =
    item_waits profile prefix place entry (static_body (body_in entry)) cluster short (typed_keeps (string (codes "STATIC")) (body_in entry)) none good

pub guarded_item : ResourcesWait
guarded_item guard prefix gs entry key clusters short is =
    let of : IsOfCluster guard.profile entry key.cluster = clusters entry key is in
    ap (λ (found : Option Key). item_of guard.profile Cds (waiting_entry prefix (option_map (place_in gs) found) entry)) is
    ∙ waits_by guard.profile prefix (place_in gs key) entry key.cluster short of.typed of.reads

-- another one stays as it is
pub other_item : (guard : Guard) (prefix : List ℕ) (gs : List Guarded) (entry : Data) → guard.key_of entry ≡ None → waiting_entry prefix (place_at guard gs entry) entry ≡ entry
other_item guard prefix gs entry is = ap (λ (key : Option Key). waiting_entry prefix (option_map (place_in gs) key) entry) is

item_name : (profile : Profile) (entry : Data) → (item_of profile Cds entry).name ≡ entry_name entry
unfolding item_of
item_name profile entry = refl

name_waits : (profile : Profile) (prefix : List ℕ) (place : Option ℕ) (entry : Data) → (item_of profile Cds (waiting_entry prefix place entry)).name ≡ (item_of profile Cds entry).name
name_waits profile prefix None entry = refl
name_waits profile prefix (Some place) entry =
    let body : Data = waiting_body (private_name prefix place) (body_in entry) in
    item_name profile (with_value (codes "resource") body entry) ∙ kept_entry_name body entry ∙ sym (item_name profile entry)

names_wait : (profile : Profile) (prefix : List ℕ) (place : Data → Option ℕ) (entries : List Data)
    → map (λ (item : ItemParts). item.name) (map (item_of profile Cds) (map (λ (entry : Data). waiting_entry prefix (place entry) entry) entries))
    ≡ map (λ (item : ItemParts). item.name) (map (item_of profile Cds) entries)
names_wait profile prefix place [] = refl
names_wait profile prefix place (entry ∷ entries) = ap₂ (λ (n : List ℕ) (ns : List (List ℕ)). n ∷ ns) (name_waits profile prefix (place entry) entry) (names_wait profile prefix place entries)

-- each resource has its name still
pub waiting_names : (prefix : List ℕ) (guard : Guard) (gs : List Guarded) (line : Data)
    → names_in (map (item_of guard.profile Cds) (waiting_entries prefix guard gs line)) ≡ names_in (map (item_of guard.profile Cds) (clusters_in guard.profile line))
waiting_names prefix guard gs line = names_wait guard.profile prefix (place_at guard gs) (clusters_in guard.profile line)

-- ---- lines with guarded resources

entry_object : (prefix : List ℕ) (place : Option ℕ) (entry : Data) → is_object entry ≡ true → is_object (waiting_entry prefix place entry) ≡ true
entry_object prefix None entry h = h
entry_object prefix (Some place) entry h = object_with (codes "resource") (waiting_body (private_name prefix place) (body_in entry)) entry ∙ h

entry_right : (prefix : List ℕ) (place : Option ℕ) (entry : Data) → is_entry entry ≡ true → is_entry (waiting_entry prefix place entry) ≡ true
entry_right prefix None entry h = h
entry_right prefix (Some place) entry h = entry_with (waiting_body (private_name prefix place) (body_in entry)) entry ∙ h

-- the items of an event that is a response of clusters
of_clusters : (event : Option Event) (is : IsOfClusters event) → is.response.items ≡ items_by event
of_clusters event is = sym (ap (λ (e : Option Event). items_by e) is.is ∙ ap (λ (kind : Option Kind). items_as kind is.response.items) is.kind)

-- a line that has some waits: it is the response that it was, with these as they wait
pub waiting_reads : LinesWait
waiting_reads prefix guard gs line some =
    let profile : Profile = guard.profile in
    let is : IsOfClusters (event_of profile line) = line_of_clusters profile (λ (entry : Data). is_some (guard.key_of entry)) line some in
    let message : Data = message_of line in
    let entries : List Data = clusters_in profile line in
    let made : List Data = waiting_entries prefix guard gs line in
    let read : response_of profile message ≡ Some is.response = response_read profile line is.response is.is in
    let listed : entries ≡ entries_of message = ap (λ (k : Option Kind). listed_as k message) (ap kind_of is.is ∙ is.kind) in
    let objects : list_all is_object entries ≡ true = ap (list_all is_object) listed ∙ entries_objects message in
    let right : list_all is_entry entries ≡ true = ap (list_all is_entry) listed ∙ entries_right profile Cds message is.response read is.kind in
    let waits = λ (entry : Data). waiting_entry prefix (place_at guard gs entry) entry in
    let response : response_of profile (message_with made message) ≡ Some (waiting_response prefix guard gs line is.response) =
    response_becomes profile Cds made message is.response read is.kind
    (all_made is_object waits (λ entry h. entry_object prefix (place_at guard gs entry) entry h) entries objects)
    (all_made is_entry waits (λ entry h. entry_right prefix (place_at guard gs entry) entry h) entries right) in
    record {
      response = is.response;
      event = is.is;
      kind = is.kind;
      reads = λ at.
          ap (λ (b : Bool). line_of profile at (cond b (response_tree (message_with made message)) line)) some ∙ line_made profile at (message_with made message)
          ∙ ap (λ (found : Option ResponseParts). line_at at Stream (option_map (λ r. Response r) found)) response;
      names = waiting_names prefix guard gs line ∙ ap names_in (sym (of_clusters (event_of profile line) is ∙ cluster_items_read profile line (event_of profile line) refl));
    }

-- another one stays as it is
pub waiting_stays : (prefix : List ℕ) (guard : Guard) (gs : List Guarded) (line : Data) → has_guarded guard line ≡ false → waiting_line prefix guard gs line ≡ line
waiting_stays prefix guard gs line none = ap (λ (b : Bool). cond b (response_tree (message_with (waiting_entries prefix guard gs line) (message_of line))) line) none

-- ---- lines that follow

-- a line that follows is a response of endpoints, by private names, in order
pub following_reads : (profile : Profile) (prefix nonce version : List ℕ) (due : List DueParts) (at : ℕ) → 1 ≤ length nonce
    → IsStreamLine profile (following_line prefix nonce version due) (following_response profile prefix nonce version due) at
following_reads profile prefix nonce version due at some =
    line_made profile at (following_message prefix nonce version due)
    ∙ ap (λ (found : Option ResponseParts). line_at at Stream (option_map (λ r. Response r) found)) (message_read profile prefix nonce version due some)

-- its resources have the names of the places that have endpoints
pub following_names : (profile : Profile) (prefix nonce version : List ℕ) (due : List DueParts)
    → names_in (following_response profile prefix nonce version due).items ≡ filter_map (name_with prefix) due
following_names profile prefix nonce version due = names_given profile prefix version due

pub lines_follow : LinesFollow
lines_follow profile prefix nonce version due some = record {
  reads = λ at. following_reads profile prefix nonce version due at some;
  names = following_names profile prefix nonce version due;
}
