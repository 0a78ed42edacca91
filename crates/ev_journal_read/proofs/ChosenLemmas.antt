-- The row that is meant is a row with the same text, and is meant itself.
use Rattle.std.proofs.Common.{◌≡◌, ℕ, List, [], ◌∷◌, map, Option, Some, None, codes, refl, sym, ap, ap₂, ◌∙◌, subst}
use Rattle.std.specs.Prelude.{All}
use Rattle.std.specs.List.{list_any}
use Rattle.std.specs.Str.{IsUtf8}
use Rattle.std.proofs.lemmas.List.Elements.{All-map}
use Rattle.serde_json.specs.Data.{string, array, object, Members, no_members, member, put}
use Rattle.serde_json.specs.View.{items_of}
use Rattle.serde_json.specs.Written.{compact_text}
use Rattle.ev_types.specs.Events.{op_same}
use Rattle.ev_types.specs.declared.contents.Request.{Request}
use Rattle.ev_types.specs.declared.events.Op.{Op}
use Rattle.ev_types.specs.declared.events.Answer.{Answer}
use Rattle.ev_types.specs.declared.events.Answer.TheVariants.{Ignored, Done, Moved, Replied, Version, Unchanged, Reaped, InUse, NoListener, NoChain, On, NotOpen, Settled}
use Rattle.ev_types.specs.declared.journals.Row.{Row}
use Rattle.ev_types.specs.Kinds.{type_url}
use Rattle.ev_wire.specs.Requests.{request_tree, with_nonce, with_names, with_node, with_versions, with_error}
use Rattle.ev_journal.specs.Rendering.{answer_tree, row_object, requests_tree, verdict_tree}
use Rattle.ev_journal.specs.Rows.{is_answered_with, operations_with, IsRequest, IsAnswer, IsRow, row_text, chosen_nonce, chosen_versions, chosen_request, chosen_answer, chosen_row}
use Rattle.ev_journal_read.proofs.EachLemmas.{All-first, All-rest}
use Rattle.ev_journal_read.proofs.VersionLemmas.{AreNamed-chosen, with_versions-chosen, chosen_versions-twice}

-- ---- requests

nonce_same : (nonce : Option (List ℕ)) (ms : Members) → with_nonce (chosen_nonce nonce) ms ≡ with_nonce nonce ms
nonce_same None ms = refl
nonce_same (Some []) ms = refl
nonce_same (Some (byte ∷ bytes)) ms = refl

nonce_twice : (nonce : Option (List ℕ)) → chosen_nonce (chosen_nonce nonce) ≡ chosen_nonce nonce
nonce_twice None = refl
nonce_twice (Some []) = refl
nonce_twice (Some (byte ∷ bytes)) = refl

request_same : (r : Request) → IsRequest r → request_tree (chosen_request r) ≡ request_tree r
request_same r h =
    let typed = put (codes "typeUrl") (string (type_url r.kind)) no_members in
    let before = λ (ms : Members). with_node r.node (with_names (codes "resourceNamesSubscribe") r.subscribe (with_names (codes "resourceNamesUnsubscribe") r.unsubscribe ms)) in
    ap (λ ms. object (with_error r.error (with_versions (chosen_versions r.versions) (before ms)))) (nonce_same r.nonce typed)
    ∙ ap (λ ms. object (with_error r.error ms)) (with_versions-chosen r.versions (before (with_nonce r.nonce typed)) h.held)

request_twice : (r : Request) → IsRequest r → chosen_request (chosen_request r) ≡ chosen_request r
request_twice r h = λ i. record {
  kind = r.kind;
  node = r.node;
  subscribe = r.subscribe;
  unsubscribe = r.unsubscribe;
  versions = chosen_versions-twice r.versions h.held i;
  nonce = nonce_twice r.nonce i;
  error = r.error;
}

IsRequest-chosen : (r : Request) → IsRequest r → IsRequest (chosen_request r)
IsRequest-chosen r h = record { subscribed = h.subscribed; unsubscribed = h.unsubscribed; held = AreNamed-chosen r.versions h.held }

-- ---- lists

map_after : {A B : Type 0} (P : A → Type 0) (f : A → B) (g : A → A) → ((a : A) → P a → f (g a) ≡ f a) → (xs : List A) → All P xs → map f (map g xs) ≡ map f xs
map_after P f g each [] h = refl
map_after P f g each (x ∷ xs) h = ap₂ (λ y ys. y ∷ ys) (each x (All-first P x xs h)) (map_after P f g each xs (All-rest P x xs h))

All-chosen : (requests : List Request) → All IsRequest requests → All IsRequest (map chosen_request requests)
All-chosen requests h = All-map IsRequest chosen_request requests (λ k d l. IsRequest-chosen _ (h k d l))

requests_same : (requests : List Request) → All IsRequest requests → requests_tree (map chosen_request requests) ≡ requests_tree requests
requests_same requests h = ap (λ ds. array (items_of ds)) (map_after IsRequest request_tree chosen_request request_same requests h)

requests_twice : (requests : List Request) → All IsRequest requests → map chosen_request (map chosen_request requests) ≡ map chosen_request requests
requests_twice requests h = map_after IsRequest chosen_request chosen_request request_twice requests h

-- ---- answers

answer_same : (answer : Answer) → IsAnswer answer → answer_tree (chosen_answer answer) ≡ answer_tree answer
answer_same Ignored h = refl
answer_same Done h = refl
answer_same (Moved requests) h = ap (λ d. object (member (codes "requests") d no_members)) (requests_same requests h)
answer_same (Replied requests verdicts) h =
    ap (λ d. object (member (codes "requests") d (member (codes "verdicts") (array (items_of (map verdict_tree verdicts))) no_members))) (requests_same requests h.0)
answer_same (Version version) h = refl
answer_same Unchanged h = refl
answer_same (Reaped numbers) h = refl
answer_same InUse h = refl
answer_same NoListener h = refl
answer_same NoChain h = refl
answer_same (On listener chain way) h = refl
answer_same NotOpen h = refl
answer_same (Settled closed moved version) h = refl

answer_twice : (answer : Answer) → IsAnswer answer → chosen_answer (chosen_answer answer) ≡ chosen_answer answer
answer_twice Ignored h = refl
answer_twice Done h = refl
answer_twice (Moved requests) h = ap Moved (requests_twice requests h)
answer_twice (Replied requests verdicts) h = ap (λ sent. Replied sent verdicts) (requests_twice requests h.0)
answer_twice (Version version) h = refl
answer_twice Unchanged h = refl
answer_twice (Reaped numbers) h = refl
answer_twice InUse h = refl
answer_twice NoListener h = refl
answer_twice NoChain h = refl
answer_twice (On listener chain way) h = refl
answer_twice NotOpen h = refl
answer_twice (Settled closed moved version) h = refl

IsAnswer-chosen : (answer : Answer) → IsAnswer answer → IsAnswer (chosen_answer answer)
IsAnswer-chosen Ignored h = h
IsAnswer-chosen Done h = h
IsAnswer-chosen (Moved requests) h = All-chosen requests h
IsAnswer-chosen (Replied requests verdicts) h = (All-chosen requests h.0, h.1)
IsAnswer-chosen (Version version) h = h
IsAnswer-chosen Unchanged h = h
IsAnswer-chosen (Reaped numbers) h = h
IsAnswer-chosen InUse h = h
IsAnswer-chosen NoListener h = h
IsAnswer-chosen NoChain h = h
IsAnswer-chosen (On listener chain way) h = h
IsAnswer-chosen NotOpen h = h
IsAnswer-chosen (Settled closed moved version) h = h

operations_same : (answer : Answer) → operations_with (chosen_answer answer) ≡ operations_with answer
operations_same Ignored = refl
operations_same Done = refl
operations_same (Moved requests) = refl
operations_same (Replied requests verdicts) = refl
operations_same (Version version) = refl
operations_same Unchanged = refl
operations_same (Reaped numbers) = refl
operations_same InUse = refl
operations_same NoListener = refl
operations_same NoChain = refl
operations_same (On listener chain way) = refl
operations_same NotOpen = refl
operations_same (Settled closed moved version) = refl

-- ---- rows

-- the answer that is meant belongs to the same operations
pub answered_same : (op : Op) (answer : Answer) → is_answered_with op (chosen_answer answer) ≡ is_answered_with op answer
answered_same op answer = ap (list_any (op_same op)) (operations_same answer)

pub row_text-chosen : (row : Row) → IsRow row → row_text (chosen_row row) ≡ row_text row
unfolding row_text
row_text-chosen row h = ap (λ d. compact_text (row_object row.actor row.at row.step row.op d)) (answer_same row.answer h.answer)

pub chosen_row-twice : (row : Row) → IsRow row → chosen_row (chosen_row row) ≡ chosen_row row
chosen_row-twice row h = λ i. record { actor = row.actor; at = row.at; step = row.step; op = row.op; answer = answer_twice row.answer h.answer i }

pub IsRow-chosen : (row : Row) → IsRow row → IsRow (chosen_row row)
IsRow-chosen row h = record {
  actor = h.actor;
  at = h.at;
  step = h.step;
  answer = IsAnswer-chosen row.answer h.answer;
  answered = answered_same row.op row.answer ∙ h.answered;
  utf8 = subst IsUtf8 (sym (row_text-chosen row h)) h.utf8;
}
