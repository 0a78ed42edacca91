-- The tree of a request has no float, so its text is that of its texts and whole numbers.
use Rattle.std.proofs.Common.{◌≡◌, ℕ, List, [], ◌∷◌, Bool, true, false, map, refl, ◌||◌, ◌∙◌, ap, Option, Some, None, codes, length, ◌≢◌}
use Rattle.std.specs.Ordering.{nat_cmp, match_ordering}
use Rattle.std.specs.declared.cmp.Ordering.{Ordering}
use Rattle.std.specs.declared.cmp.Ordering.TheVariants.{Less, Equal, Greater}
use Rattle.std.specs.Cmp.Lexicographic.{slice_cmp}
use Rattle.serde_json.specs.Data.{Data, number, unsigned, string, array, object, Members, member, no_members, put}
use Rattle.serde_json.specs.View.{items_of}
use Rattle.serde_json.specs.Written.{has_float, items_have_float, members_have_float}
use Rattle.ev_types.specs.declared.contents.Request.{Request}
use Rattle.ev_types.specs.Kinds.{type_url}
use Rattle.ev_wire.specs.Requests.{request_tree, with_nonce, with_names, with_node, version_members, with_versions, with_error}

neither : (a b : Bool) → a ≡ false → b ≡ false → (a || b) ≡ false
neither a b h k = ap (λ c. c || b) h ∙ k

first_of_neither : (a b : Bool) → (a || b) ≡ false → a ≡ false
first_of_neither true b h = h
first_of_neither false b h = refl

second_of_neither : (a b : Bool) → (a || b) ≡ false → b ≡ false
second_of_neither true b h = cc
second_of_neither false b h = h

put_by : (r : Ordering) (k l : List ℕ) (d e : Data) (ms after : Members)
    → has_float d ≡ false → has_float e ≡ false → members_have_float ms ≡ false → members_have_float after ≡ false
    → members_have_float (match_ordering r (member k d (member l e ms)) (member l d ms) (member l e after)) ≡ false
put_by Less k l d e ms after hd he hm ha = neither _ _ hd (neither _ _ he hm)
put_by Equal k l d e ms after hd he hm ha = neither _ _ hd hm
put_by Greater k l d e ms after hd he hm ha = neither _ _ he ha

-- a member without a float is put among such members
pub members_have_float-put : (k : List ℕ) (d : Data) (ms : Members)
    → has_float d ≡ false → members_have_float ms ≡ false → members_have_float (put k d ms) ≡ false
members_have_float-put k d no_members hd hm = neither _ _ hd refl
members_have_float-put k d (member l e ms) hd hm =
    let he : has_float e ≡ false = first_of_neither (has_float e) (members_have_float ms) hm in
    let hms : members_have_float ms ≡ false = second_of_neither (has_float e) (members_have_float ms) hm in
    put_by (slice_cmp nat_cmp k l) k l d e ms (put k d ms) hd he hms (members_have_float-put k d ms hd hms)

-- items without a float
pub items_have_float-map : {A : Type 0} (f : A → Data) → ((a : A) → has_float (f a) ≡ false) → (xs : List A)
    → items_have_float (items_of (map f xs)) ≡ false
items_have_float-map f each [] = refl
items_have_float-map f each (x ∷ xs) = neither _ _ (each x) (items_have_float-map f each xs)

with_nonce-whole : (nonce : Option (List ℕ)) (ms : Members)
    → members_have_float ms ≡ false → members_have_float (with_nonce nonce ms) ≡ false
with_nonce-whole None ms h = h
with_nonce-whole (Some []) ms h = h
with_nonce-whole (Some (byte ∷ bytes)) ms h = members_have_float-put (codes "responseNonce") (string (byte ∷ bytes)) ms refl h

with_names-whole : (key : List ℕ) (names : List (List ℕ)) (ms : Members)
    → members_have_float ms ≡ false → members_have_float (with_names key names ms) ≡ false
with_names-whole key [] ms h = h
with_names-whole key (name ∷ names) ms h =
    members_have_float-put key (array (items_of (map string (name ∷ names)))) ms (items_have_float-map string (λ _. refl) (name ∷ names)) h

with_node-whole : (node : Option (List ℕ)) (ms : Members)
    → members_have_float ms ≡ false → members_have_float (with_node node ms) ≡ false
with_node-whole None ms h = h
with_node-whole (Some id) ms h = members_have_float-put (codes "node") (object (member (codes "id") (string id) no_members)) ms refl h

version_members-whole : (versions : List (List ℕ × List ℕ)) (ms : Members)
    → members_have_float ms ≡ false → members_have_float (version_members versions ms) ≡ false
version_members-whole [] ms h = h
version_members-whole (v ∷ vs) ms h =
    version_members-whole vs (put v.0 (string v.1) ms) (members_have_float-put v.0 (string v.1) ms refl h)

with_versions-whole : (versions : List (List ℕ × List ℕ)) (ms : Members)
    → members_have_float ms ≡ false → members_have_float (with_versions versions ms) ≡ false
with_versions-whole [] ms h = h
with_versions-whole (v ∷ vs) ms h =
    members_have_float-put (codes "initialResourceVersions") (object (version_members (v ∷ vs) no_members)) ms
    (version_members-whole (v ∷ vs) no_members refl) h

with_error-whole : (error : Option (List ℕ)) (ms : Members)
    → members_have_float ms ≡ false → members_have_float (with_error error ms) ≡ false
with_error-whole None ms h = h
with_error-whole (Some message) ms h =
    members_have_float-put (codes "errorDetail")
    (object (member (codes "code") (number (unsigned 13)) (member (codes "message") (string message) no_members))) ms refl h

-- the tree of a request has no float
pub request_tree-whole : (request : Request) → has_float (request_tree request) ≡ false
request_tree-whole request =
    with_error-whole request.error _ (with_versions-whole request.versions _ (with_node-whole request.node _
    (with_names-whole (codes "resourceNamesSubscribe") request.subscribe _
    (with_names-whole (codes "resourceNamesUnsubscribe") request.unsubscribe _
    (with_nonce-whole request.nonce _
    (members_have_float-put (codes "typeUrl") (string (type_url request.kind)) no_members refl refl))))))

-- the same of what is equal to a request's tree
pub request_whole : (request : Request) (d : Data) → d ≡ request_tree request → has_float d ≡ false
request_whole request d e = ap has_float e ∙ request_tree-whole request

-- versions that are given are a member
pub versions_given : (versions : List (List ℕ × List ℕ)) (ms : Members) → length versions ≢ 0
    → put (codes "initialResourceVersions") (object (version_members versions no_members)) ms ≡ with_versions versions ms
versions_given [] ms h = absurd (h refl)
versions_given (v ∷ vs) ms h = refl

-- a nonce that isn't empty is a member
pub nonce_given : (nonce : List ℕ) (ms : Members) → length nonce ≢ 0 → put (codes "responseNonce") (string nonce) ms ≡ with_nonce (Some nonce) ms
nonce_given [] ms h = absurd (h refl)
nonce_given (byte ∷ bytes) ms h = refl
