-- The tree of a request reads as the request that is meant by it.
use Rattle.std.proofs.Common.{◌≡◌, ℕ, List, [], ◌∷◌, map, false, Option, Some, None, option_map, option_and_then, codes, refl, sym, ap, ◌∙◌, true≢false, bytes_eq}
use Rattle.std.specs.Prelude.{All}
use Rattle.std.proofs.lemmas.Slice.Eq.{bytes_eq-Decides}
use Rattle.serde_json.specs.Data.{Data, number, unsigned, string, array, object, Members, no_members, member, put}
use Rattle.serde_json.specs.Find.{get_member, as_str}
use Rattle.serde_json.specs.View.{items_of}
use Rattle.serde_json.proofs.Views.{get_member-put, get_member-put_other}
use Rattle.ev_types.specs.Texts.{IsName}
use Rattle.ev_types.specs.declared.contents.Kind.{Kind}
use Rattle.ev_types.specs.declared.contents.Request.{Request}
use Rattle.ev_script.specs.Members.{name_of, member_or, or_default}
use Rattle.ev_types.specs.Kinds.{type_url, kind_of_url, kind_of_type_url}
use Rattle.ev_wire.specs.Requests.{request_tree, with_nonce, with_names, with_node, version_members, with_versions, with_error}
use Rattle.ev_journal.specs.Rows.{IsRequest, chosen_nonce, chosen_versions, chosen_request}
use Rattle.ev_journal_read.specs.declared.requests.RequestTexts.{RequestTexts}
use Rattle.ev_journal_read.specs.declared.requests.RequestLists.{RequestLists}
use Rattle.ev_journal_read.specs.Trees.{list_of, given_text, given_id, given_message, versions_of, versions_at, names_at, kind_of, texts_with, texts_of, lists_with, lists_of, request_with, request_of}
use Rattle.ev_journal_read.proofs.PartLemmas.{name_of-string, list_of-same}
use Rattle.ev_journal_read.proofs.VersionLemmas.{AreNamed, pairs_of-versions}

-- ---- a member that isn't the one that is put

apart : (q k : List ℕ) → bytes_eq q k ≡ false → q ≡ k → ⊥
apart q k h e = true≢false (sym ((bytes_eq-Decides q k).1 e) ∙ h)

other : (q k : List ℕ) (d : Data) (ms : Members) → bytes_eq q k ≡ false → get_member q (put k d ms) ≡ get_member q ms
other q k d ms h = get_member-put_other q k d ms (apart q k h)

-- the member is there, or isn't, as before
abbrev Same : List ℕ → Members → Members → Type 0
Same q new old = get_member q new ≡ get_member q old

past_nonce : (q : List ℕ) (nonce : Option (List ℕ)) (ms : Members) → bytes_eq q (codes "responseNonce") ≡ false → Same q (with_nonce nonce ms) ms
past_nonce q None ms h = refl
past_nonce q (Some []) ms h = refl
past_nonce q (Some (byte ∷ bytes)) ms h = other q (codes "responseNonce") (string (byte ∷ bytes)) ms h

past_names : (q key : List ℕ) (names : List (List ℕ)) (ms : Members) → bytes_eq q key ≡ false → Same q (with_names key names ms) ms
past_names q key [] ms h = refl
past_names q key (name ∷ names) ms h = other q key (array (items_of (map string (name ∷ names)))) ms h

past_node : (q : List ℕ) (node : Option (List ℕ)) (ms : Members) → bytes_eq q (codes "node") ≡ false → Same q (with_node node ms) ms
past_node q None ms h = refl
past_node q (Some id) ms h = other q (codes "node") (object (member (codes "id") (string id) no_members)) ms h

past_versions : (q : List ℕ) (versions : List (List ℕ × List ℕ)) (ms : Members) → bytes_eq q (codes "initialResourceVersions") ≡ false → Same q (with_versions versions ms) ms
past_versions q [] ms h = refl
past_versions q (v ∷ vs) ms h = other q (codes "initialResourceVersions") (object (version_members (v ∷ vs) no_members)) ms h

past_error : (q : List ℕ) (error : Option (List ℕ)) (ms : Members) → bytes_eq q (codes "errorDetail") ≡ false → Same q (with_error error ms) ms
past_error q None ms h = refl
past_error q (Some message) ms h =
    other q (codes "errorDetail") (object (member (codes "code") (number (unsigned 13)) (member (codes "message") (string message) no_members))) ms h

-- ---- the member that is put, where there was none

nonce_read : (nonce : Option (List ℕ)) (ms : Members) → get_member (codes "responseNonce") ms ≡ None
    → or_default given_text None (get_member (codes "responseNonce") (with_nonce nonce ms)) ≡ Some (chosen_nonce nonce)
nonce_read None ms absent = ap (or_default given_text None) absent
nonce_read (Some []) ms absent = ap (or_default given_text None) absent
nonce_read (Some (byte ∷ bytes)) ms absent = ap (or_default given_text None) (get_member-put (codes "responseNonce") (string (byte ∷ bytes)) ms)

names_read : (key : List ℕ) (names : List (List ℕ)) (ms : Members) → All IsName names → get_member key ms ≡ None
    → or_default (list_of name_of) [] (get_member key (with_names key names ms)) ≡ Some names
names_read key [] ms named absent = ap (or_default (list_of name_of) []) absent
names_read key (name ∷ names) ms named absent =
    ap (or_default (list_of name_of) []) (get_member-put key (array (items_of (map string (name ∷ names)))) ms)
    ∙ list_of-same IsName name_of string name_of-string (name ∷ names) named

node_read : (node : Option (List ℕ)) (ms : Members) → get_member (codes "node") ms ≡ None
    → or_default given_id None (get_member (codes "node") (with_node node ms)) ≡ Some node
node_read None ms absent = ap (or_default given_id None) absent
node_read (Some id) ms absent = ap (or_default given_id None) (get_member-put (codes "node") (object (member (codes "id") (string id) no_members)) ms)

versions_read : (versions : List (List ℕ × List ℕ)) (ms : Members) → AreNamed versions → get_member (codes "initialResourceVersions") ms ≡ None
    → or_default versions_of [] (get_member (codes "initialResourceVersions") (with_versions versions ms)) ≡ Some (chosen_versions versions)
versions_read [] ms named absent = ap (or_default versions_of []) absent
versions_read (v ∷ vs) ms named absent =
    ap (or_default versions_of []) (get_member-put (codes "initialResourceVersions") (object (version_members (v ∷ vs) no_members)) ms)
    ∙ pairs_of-versions (v ∷ vs) named

error_read : (error : Option (List ℕ)) (ms : Members) → get_member (codes "errorDetail") ms ≡ None
    → or_default given_message None (get_member (codes "errorDetail") (with_error error ms)) ≡ Some error
error_read None ms absent = ap (or_default given_message None) absent
error_read (Some message) ms absent =
    ap (or_default given_message None)
    (get_member-put (codes "errorDetail") (object (member (codes "code") (number (unsigned 13)) (member (codes "message") (string message) no_members))) ms)

-- ---- all members

texts_from : (node nonce error : Option (Option (List ℕ))) (n o e : Option (List ℕ)) → node ≡ Some n → nonce ≡ Some o → error ≡ Some e
    → option_and_then (λ node. option_and_then (λ nonce. option_map (λ error. texts_with node nonce error) error) nonce) node
    ≡ Some (texts_with n o e)
texts_from its_id its_nonce its_message n o e p q r = rw (p, q, r) refl

lists_from : (subscribe unsubscribe : Option (List (List ℕ))) (versions : Option (List (List ℕ × List ℕ))) (s u : List (List ℕ)) (v : List (List ℕ × List ℕ))
    → subscribe ≡ Some s → unsubscribe ≡ Some u → versions ≡ Some v
    → option_and_then (λ subscribe. option_and_then (λ unsubscribe. option_map (λ versions. lists_with subscribe unsubscribe versions) versions) unsubscribe) subscribe
    ≡ Some (lists_with s u v)
lists_from subscribe unsubscribe versions s u v p q r = rw (p, q, r) refl

request_from : (kind : Option Kind) (texts : Option RequestTexts) (lists : Option RequestLists) (k : Kind) (t : RequestTexts) (l : RequestLists)
    → kind ≡ Some k → texts ≡ Some t → lists ≡ Some l
    → option_and_then (λ kind. option_and_then (λ texts. option_map (λ lists. request_with kind texts lists) lists) texts) kind ≡ Some (request_with k t l)
request_from kind texts lists k t l p q r = rw (p, q, r) refl

-- the members of a request, one after another
abbrev typed : Request → Members
typed r = put (codes "typeUrl") (string (type_url r.kind)) no_members

abbrev answering : Request → Members
answering r = with_nonce r.nonce (typed r)

abbrev leaving : Request → Members
leaving r = with_names (codes "resourceNamesUnsubscribe") r.unsubscribe (answering r)

abbrev asking : Request → Members
asking r = with_names (codes "resourceNamesSubscribe") r.subscribe (leaving r)

abbrev first : Request → Members
first r = with_node r.node (asking r)

abbrev holding : Request → Members
holding r = with_versions r.versions (first r)

kind_read : (r : Request) → kind_of (request_tree r) ≡ Some r.kind
kind_read r =
    ap (λ o. option_and_then kind_of_url (option_and_then as_str o))
    (past_error (codes "typeUrl") r.error (holding r) refl
    ∙ past_versions (codes "typeUrl") r.versions (first r) refl
    ∙ past_node (codes "typeUrl") r.node (asking r) refl
    ∙ past_names (codes "typeUrl") (codes "resourceNamesSubscribe") r.subscribe (leaving r) refl
    ∙ past_names (codes "typeUrl") (codes "resourceNamesUnsubscribe") r.unsubscribe (answering r) refl
    ∙ past_nonce (codes "typeUrl") r.nonce (typed r) refl)
    ∙ kind_of_type_url r.kind

its_error : (r : Request) → member_or None given_message (codes "errorDetail") (request_tree r) ≡ Some r.error
its_error r =
    error_read r.error (holding r)
    (past_versions (codes "errorDetail") r.versions (first r) refl
    ∙ past_node (codes "errorDetail") r.node (asking r) refl
    ∙ past_names (codes "errorDetail") (codes "resourceNamesSubscribe") r.subscribe (leaving r) refl
    ∙ past_names (codes "errorDetail") (codes "resourceNamesUnsubscribe") r.unsubscribe (answering r) refl
    ∙ past_nonce (codes "errorDetail") r.nonce (typed r) refl)

its_versions : (r : Request) → IsRequest r → versions_at (request_tree r) ≡ Some (chosen_versions r.versions)
its_versions r h =
    ap (or_default versions_of [])
    (past_error (codes "initialResourceVersions") r.error (holding r) refl)
    ∙ versions_read r.versions (first r) h.held
    (past_node (codes "initialResourceVersions") r.node (asking r) refl
    ∙ past_names (codes "initialResourceVersions") (codes "resourceNamesSubscribe") r.subscribe (leaving r) refl
    ∙ past_names (codes "initialResourceVersions") (codes "resourceNamesUnsubscribe") r.unsubscribe (answering r) refl
    ∙ past_nonce (codes "initialResourceVersions") r.nonce (typed r) refl)

its_node : (r : Request) → member_or None given_id (codes "node") (request_tree r) ≡ Some r.node
its_node r =
    ap (or_default given_id None)
    (past_error (codes "node") r.error (holding r) refl
    ∙ past_versions (codes "node") r.versions (first r) refl)
    ∙ node_read r.node (asking r)
    (past_names (codes "node") (codes "resourceNamesSubscribe") r.subscribe (leaving r) refl
    ∙ past_names (codes "node") (codes "resourceNamesUnsubscribe") r.unsubscribe (answering r) refl
    ∙ past_nonce (codes "node") r.nonce (typed r) refl)

its_subscribe : (r : Request) → IsRequest r → names_at (codes "resourceNamesSubscribe") (request_tree r) ≡ Some r.subscribe
its_subscribe r h =
    ap (or_default (list_of name_of) [])
    (past_error (codes "resourceNamesSubscribe") r.error (holding r) refl
    ∙ past_versions (codes "resourceNamesSubscribe") r.versions (first r) refl
    ∙ past_node (codes "resourceNamesSubscribe") r.node (asking r) refl)
    ∙ names_read (codes "resourceNamesSubscribe") r.subscribe (leaving r) h.subscribed
    (past_names (codes "resourceNamesSubscribe") (codes "resourceNamesUnsubscribe") r.unsubscribe (answering r) refl
    ∙ past_nonce (codes "resourceNamesSubscribe") r.nonce (typed r) refl)

its_unsubscribe : (r : Request) → IsRequest r → names_at (codes "resourceNamesUnsubscribe") (request_tree r) ≡ Some r.unsubscribe
its_unsubscribe r h =
    ap (or_default (list_of name_of) [])
    (past_error (codes "resourceNamesUnsubscribe") r.error (holding r) refl
    ∙ past_versions (codes "resourceNamesUnsubscribe") r.versions (first r) refl
    ∙ past_node (codes "resourceNamesUnsubscribe") r.node (asking r) refl
    ∙ past_names (codes "resourceNamesUnsubscribe") (codes "resourceNamesSubscribe") r.subscribe (leaving r) refl)
    ∙ names_read (codes "resourceNamesUnsubscribe") r.unsubscribe (answering r) h.unsubscribed
    (past_nonce (codes "resourceNamesUnsubscribe") r.nonce (typed r) refl)

its_nonce : (r : Request) → member_or None given_text (codes "responseNonce") (request_tree r) ≡ Some (chosen_nonce r.nonce)
its_nonce r =
    ap (or_default given_text None)
    (past_error (codes "responseNonce") r.error (holding r) refl
    ∙ past_versions (codes "responseNonce") r.versions (first r) refl
    ∙ past_node (codes "responseNonce") r.node (asking r) refl
    ∙ past_names (codes "responseNonce") (codes "resourceNamesSubscribe") r.subscribe (leaving r) refl
    ∙ past_names (codes "responseNonce") (codes "resourceNamesUnsubscribe") r.unsubscribe (answering r) refl)
    ∙ nonce_read r.nonce (typed r)
    (refl)

-- a request's tree is read as the request that is meant
pub request_read : (r : Request) → IsRequest r → request_of (request_tree r) ≡ Some (chosen_request r)
unfolding request_of
request_read r h =
    request_from (kind_of (request_tree r)) (texts_of (request_tree r)) (lists_of (request_tree r)) r.kind
    (texts_with r.node (chosen_nonce r.nonce) r.error)
    (lists_with r.subscribe r.unsubscribe (chosen_versions r.versions))
    (kind_read r)
    (texts_from _ _ _ r.node (chosen_nonce r.nonce) r.error (its_node r) (its_nonce r) (its_error r))
    (lists_from _ _ _ r.subscribe r.unsubscribe (chosen_versions r.versions) (its_subscribe r h) (its_unsubscribe r h) (its_versions r h))
