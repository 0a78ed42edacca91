-- Members that are given, and no floats among them.
use Rattle.std.proofs.Common.{◌≡◌, ◌∙◌, ◌≢◌, ℕ, List, [], ◌∷◌, Bool, false, ◌||◌, length, map, codes, Option, Some, None, refl, ap}
use Rattle.serde_json.specs.Data.{number, unsigned, string, array, object, Members, member, no_members, put}
use Rattle.serde_json.specs.View.{items_of}
use Rattle.serde_json.specs.Written.{has_float, members_have_float}
use Rattle.ev_types.specs.declared.contents.Request.{Request}
use Rattle.ev_types.specs.declared.events.Actor.{Actor}
use Rattle.ev_types.specs.declared.events.Op.{Op}
use Rattle.ev_types.specs.declared.events.Verdict.{Verdict}
use Rattle.ev_types.specs.Kinds.{type_url}
use Rattle.ev_wire.specs.Requests.{with_names, with_node, with_error}
use Rattle.ev_wire.proofs.RequestLemmas.{members_have_float-put, items_have_float-map}
use Rattle.ev_journal.specs.Rendering.{verdict_tree, row_object}
use Rattle.ev_sotw.specs.Stated.{Known, with_text, sotw_request}
use Rattle.ev_sotw.specs.Follows.{type_by, request_by, moved_by, replied_by}
use Rattle.ev_sotw.specs.declared.state.SotwState.{SotwState}

-- a text that isn't empty is a member
pub text_given : (key text : List ℕ) (ms : Members) → length text ≢ 0 → put key (string text) ms ≡ with_text key text ms
text_given key [] ms h = absurd (h refl)
text_given key (byte ∷ bytes) ms h = refl

-- names that are some are a member
pub names_given : (key : List ℕ) (names : List (List ℕ)) (ms : Members) → length names ≢ 0 → put key (array (items_of (map string names))) ms ≡ with_names key names ms
names_given key [] ms h = absurd (h refl)
names_given key (name ∷ names) ms h = refl

-- ---- no floats

neither : (a b : Bool) → a ≡ false → b ≡ false → (a || b) ≡ false
neither a b h k = ap (λ c. c || b) h ∙ k

text_whole : (key text : List ℕ) (ms : Members) → members_have_float ms ≡ false → members_have_float (with_text key text ms) ≡ false
text_whole key [] ms h = h
text_whole key (byte ∷ bytes) ms h = members_have_float-put key (string (byte ∷ bytes)) ms refl h

names_whole : (key : List ℕ) (names : List (List ℕ)) (ms : Members) → members_have_float ms ≡ false → members_have_float (with_names key names ms) ≡ false
names_whole key [] ms h = h
names_whole key (name ∷ names) ms h = members_have_float-put key (array (items_of (map string (name ∷ names)))) ms (items_have_float-map string (λ _. refl) (name ∷ names)) h

node_whole : (node : Option (List ℕ)) (ms : Members) → members_have_float ms ≡ false → members_have_float (with_node node ms) ≡ false
node_whole None ms h = h
node_whole (Some id) ms h = members_have_float-put (codes "node") (object (member (codes "id") (string id) no_members)) ms refl h

error_whole : (error : Option (List ℕ)) (ms : Members) → members_have_float ms ≡ false → members_have_float (with_error error ms) ≡ false
error_whole None ms h = h
error_whole (Some message) ms h =
    members_have_float-put (codes "errorDetail") (object (member (codes "code") (number (unsigned 13)) (member (codes "message") (string message) no_members))) ms refl h

request_whole : (known : Known) (request : Request) → has_float (sotw_request known request) ≡ false
unfolding sotw_request
request_whole known request =
    text_whole (codes "versionInfo") known.version _ (error_whole request.error _ (node_whole request.node _ (names_whole (codes "resourceNames") known.names _
    (text_whole (codes "responseNonce") known.nonce _ (members_have_float-put (codes "typeUrl") (string (type_url request.kind)) no_members refl refl)))))

-- the rows of answers with requests have no float
pub moved_whole : (actor : Actor) (at step : ℕ) (op : Op) (state : SotwState) (requests : List Request) → has_float (row_object actor at step op (moved_by state requests)) ≡ false
moved_whole actor at step op state requests =
    neither _ _ (neither _ _ (items_have_float-map (request_by state) (λ request. request_whole (type_by state request.kind) request) requests) refl) refl

pub replied_whole : (actor : Actor) (at step : ℕ) (op : Op) (state : SotwState) (requests : List Request) (verdicts : List Verdict)
    → has_float (row_object actor at step op (replied_by state requests verdicts)) ≡ false
replied_whole actor at step op state requests verdicts =
    neither _ _
    (neither _ _ (items_have_float-map (request_by state) (λ request. request_whole (type_by state request.kind) request) requests)
    (neither _ _ (items_have_float-map verdict_tree (λ _. refl) verdicts) refl)) refl
