-- What is written part by part has the text of its tree: no word and no digit in it is escaped.
use Rattle.std.proofs.Common.{◌≡◌, ◌≢◌, ◌∙◌, ℕ, length, ◌<◌, ◌≤◌, ◌^◌, List, [], ◌∷◌, ◌++◌, map, true, false, Option, None, Some, refl, ap, ap₂, sym, arith}
use Rattle.std.specs.Prelude.{codes, decimal}
use Rattle.std.specs.Str.Parse.{AllDigits}
use Rattle.std.proofs.lemmas.List.{append_assoc}
use Rattle.std.proofs.lemmas.Bool.Decides.{nat_tests}
use Rattle.std.proofs.lemmas.Fmt.{decimal_is_IsNumeral}
use Rattle.std.proofs.lemmas.Str.Parse.{digit_from_value}
use Rattle.json.specs.Print.{escape, escape_byte, quoted}
use Rattle.serde_json.specs.Data.{Data, string, array, Members, no_members, member}
use Rattle.serde_json.specs.View.{items_of}
use Rattle.serde_json.specs.Written.{compact_text, members_text}
use Rattle.ev_types.specs.declared.contents.Request.{Request}
use Rattle.ev_types.specs.declared.events.Actor.{Actor}
use Rattle.ev_types.specs.declared.events.Actor.TheVariants.{Stream, Health, Timer, Main, Worker}
use Rattle.ev_types.specs.declared.events.Answer.TheVariants.{Moved, Replied, Version, Reaped}
use Rattle.ev_types.specs.declared.events.Op.{Op}
use Rattle.ev_types.specs.declared.events.Op.TheVariants.{Connect, Disconnect, Response, Health as health, FetchTimeout, DrainTimeout, TtlExpired, Publish, Reap, Accept, Close, Settle}
use Rattle.ev_types.specs.declared.events.Verdict.{Verdict}
use Rattle.ev_types.specs.declared.hosts.Host.{Host}
use Rattle.ev_types.specs.declared.origins.ChainPlace.{ChainPlace}
use Rattle.ev_journal.specs.Pieces.{given_text}
use Rattle.ev_journal.specs.Rendering.{actor_text, answer_tree, any_of, going_tree, local_tree, number_tree, numbers_tree, op_text, place_tree, requests_tree, row_object, served_tree, settled_tree, verdict_tree, with_given}
use Rattle.ev_journal.specs.Rows.{IsActor}

digit-plain : (c : ℕ) → 48 ≤ c → c ≤ 57 → escape_byte c ≡ c ∷ []
unfolding escape_byte
digit-plain c low high = grind (arith, nat_tests)

digits-plain : (ds : List ℕ) → AllDigits 10 ds → escape ds ≡ ds
digits-plain [] all = refl
digits-plain (c ∷ cs) all =
    let within = digit_from_value c all.0 in
    ap₂ (λ (a b : List ℕ). a ++ b) (digit-plain c within.0 within.1) (digits-plain cs all.1)

decimal-plain : (n : ℕ) → n < 2 ^ 64 → escape (decimal n) ≡ decimal n
decimal-plain n small = digits-plain (decimal n) (decimal_is_IsNumeral n small).0.1

-- the words of a row
pub actor-plain : (actor : Actor) → IsActor actor → escape (actor_text actor) ≡ actor_text actor
unfolding escape_byte
actor-plain Stream kept = refl
actor-plain Health kept = refl
actor-plain Timer kept = refl
actor-plain Main kept = refl
actor-plain (Worker worker) kept = ap (λ (t : List ℕ). 119 ∷ t) (decimal-plain worker (omega (arith, kept)))

pub op-plain : (op : Op) → escape (op_text op) ≡ op_text op
unfolding escape_byte
op-plain Connect = refl
op-plain Disconnect = refl
op-plain Response = refl
op-plain health = refl
op-plain FetchTimeout = refl
op-plain DrainTimeout = refl
op-plain TtlExpired = refl
op-plain Publish = refl
op-plain Reap = refl
op-plain Accept = refl
op-plain Close = refl
op-plain Settle = refl

-- a plain text in quotes, and what comes after it
closed : (word rest : List ℕ) → escape word ≡ word → word ++ (34 ∷ rest) ≡ (escape word ++ 34 ∷ []) ++ rest
closed word rest plain = sym (ap (λ (e : List ℕ). (e ++ 34 ∷ []) ++ rest) plain ∙ append_assoc word (34 ∷ []) rest)

-- a row
pub row : (actor op answer : List ℕ) (who : Actor) (at step : ℕ) (does : Op) (tree : Data)
    → actor ≡ actor_text who → IsActor who → op ≡ op_text does → answer ≡ compact_text tree
    → codes "{\"actor\":\"" ++ (actor ++ (codes "\",\"answer\":" ++ (answer ++ (codes ",\"at\":" ++ (decimal at
    ++ (codes ",\"op\":\"" ++ (op ++ (codes "\",\"step\":" ++ (decimal step ++ codes "}")))))))))
    ≡ compact_text (row_object who at step does tree)
unfolding escape_byte
row actor op answer who at step does tree is_actor kept is_op is =
    let last : List ℕ = codes ",\"step\":" ++ (decimal step ++ codes "}") in
    let after : List ℕ → List ℕ → List ℕ = λ a t. codes "\",\"answer\":" ++ (a ++ (codes ",\"at\":" ++ (decimal at ++ (codes ",\"op\":\"" ++ t)))) in
    (λ i. codes "{\"actor\":\"" ++ (is_actor i ++ after (is i) (is_op i ++ 34 ∷ last)))
    ∙ ap (λ (t : List ℕ). codes "{\"actor\":\"" ++ (actor_text who ++ after (compact_text tree) t)) (closed (op_text does) last (op-plain does))
    ∙ ap (λ (t : List ℕ). codes "{\"actor\":\"" ++ t)
    (closed (actor_text who) (codes ",\"answer\":" ++ (compact_text tree ++ (codes ",\"at\":" ++ (decimal at ++ (codes ",\"op\":\""
    ++ ((escape (op_text does) ++ 34 ∷ []) ++ last)))))) (actor-plain who kept))

-- members of which the first may be missing
is_behind : {A : Type 0} (key : List ℕ) (tree : A → Data) (value : Option A) (ms : Members)
    → members_text true ms ≡ 44 ∷ members_text false ms → members_text true (with_given key tree value ms) ≡ 44 ∷ members_text false (with_given key tree value ms)
is_behind key tree None ms more = more
is_behind key tree (Some value) ms more = refl

in_front : {A : Type 0} (key : List ℕ) (tree : A → Data) (value : Option A) (ms : Members)
    → members_text true ms ≡ 44 ∷ members_text false ms → given_text key tree value ++ members_text false ms ≡ members_text false (with_given key tree value ms)
in_front key tree None ms more = refl
in_front key tree (Some value) ms more =
    append_assoc (quoted key) (58 ∷ (compact_text (tree value) ++ 44 ∷ [])) (members_text false ms)
    ∙ ap (λ (t : List ℕ). quoted key ++ 58 ∷ t) (append_assoc (compact_text (tree value)) (44 ∷ []) (members_text false ms))
    ∙ ap (λ (t : List ℕ). quoted key ++ 58 ∷ (compact_text (tree value) ++ t)) (sym more)

-- answers
going_end : List ℕ → ℕ → Members
going_end word listener = member (codes "listener") (number_tree listener) (member (codes "result") (string word) no_members)

pub going : (chain cluster word : List ℕ) (listener : ℕ) (place : Option ChainPlace) (number : Option ℕ) → escape word ≡ word
    → chain ≡ given_text (codes "chain") place_tree place → cluster ≡ given_text (codes "cluster") number_tree number
    → codes "{" ++ (chain ++ (cluster ++ (codes "\"listener\":" ++ (decimal listener ++ (codes ",\"result\":\"" ++ (word ++ codes "\"}"))))))
    ≡ compact_text (going_tree word listener place number)
unfolding escape_byte going_end
going chain cluster word listener place number plain by of =
    ap₂ (λ (c d : List ℕ). 123 ∷ (c ++ (d ++ (codes "\"listener\":" ++ (decimal listener ++ (codes ",\"result\":\"" ++ (word ++ codes "\"}"))))))) by of
    ∙ ap (λ (t : List ℕ). 123 ∷ (given_text (codes "chain") place_tree place ++ (given_text (codes "cluster") number_tree number
    ++ (codes "\"listener\":" ++ (decimal listener ++ (codes ",\"result\":\"" ++ t)))))) (closed word (125 ∷ []) plain)
    ∙ ap (λ (t : List ℕ). 123 ∷ (given_text (codes "chain") place_tree place ++ t)) (in_front (codes "cluster") number_tree number (going_end word listener) refl)
    ∙ ap (λ (t : List ℕ). 123 ∷ t)
    (in_front (codes "chain") place_tree place (with_given (codes "cluster") number_tree number (going_end word listener))
    (is_behind (codes "cluster") number_tree number (going_end word listener) refl))

local_end : ℕ → ℕ → Members
local_end listener status =
    member (codes "listener") (number_tree listener) (member (codes "result") (string (codes "local")) (member (codes "status") (number_tree status) no_members))

pub local : (chain : List ℕ) (listener : ℕ) (place : Option ChainPlace) (status : ℕ) → chain ≡ given_text (codes "chain") place_tree place
    → codes "{" ++ (chain ++ (codes "\"listener\":" ++ (decimal listener ++ (codes ",\"result\":\"local\",\"status\":" ++ (decimal status ++ codes "}")))))
    ≡ compact_text (local_tree listener place status)
unfolding escape_byte local_end
local chain listener place status by =
    ap (λ (c : List ℕ). 123 ∷ (c ++ members_text false (local_end listener status))) by
    ∙ ap (λ (t : List ℕ). 123 ∷ t) (in_front (codes "chain") place_tree place (local_end listener status) refl)

served_end : ℕ → ℕ → ℕ → Members
served_end listener cluster port =
    member (codes "cluster") (number_tree cluster)
    (member (codes "listener") (number_tree listener)
    (member (codes "port") (number_tree port)
    (member (codes "result") (string (codes "served")) no_members)))

pub served : (address chain : List ℕ) (listener cluster : ℕ) (place : Option ChainPlace) (host : Host) → address ≡ compact_text (string host.address)
    → chain ≡ given_text (codes "chain") place_tree place
    → codes "{\"address\":" ++ (address ++ (codes "," ++ (chain ++ (codes "\"cluster\":" ++ (decimal cluster ++ (codes ",\"listener\":" ++ (decimal listener
    ++ (codes ",\"port\":" ++ (decimal host.port ++ codes ",\"result\":\"served\"}")))))))))
    ≡ compact_text (served_tree listener place cluster host)
unfolding escape_byte served_end
served address chain listener cluster place host is by =
    let end = served_end listener cluster host.port in
    ap₂ (λ (a c : List ℕ). codes "{\"address\":" ++ (a ++ (44 ∷ (c ++ members_text false end)))) is by
    ∙ ap (λ (t : List ℕ). codes "{\"address\":" ++ (compact_text (string host.address) ++ 44 ∷ t)) (in_front (codes "chain") place_tree place end refl)
    ∙ ap (λ (t : List ℕ). codes "{\"address\":" ++ (compact_text (string host.address) ++ t)) (sym (is_behind (codes "chain") place_tree place end refl))

pub moved : (text : List ℕ) (requests : List Request) → text ≡ compact_text (requests_tree requests)
    → codes "{\"requests\":" ++ (text ++ codes "}") ≡ compact_text (answer_tree (Moved requests))
unfolding escape_byte
moved text requests is = ap (λ (t : List ℕ). codes "{\"requests\":" ++ (t ++ codes "}")) is

pub replied : (text others : List ℕ) (requests : List Request) (verdicts : List Verdict)
    → text ≡ compact_text (requests_tree requests) → others ≡ compact_text (array (items_of (map verdict_tree verdicts)))
    → codes "{\"requests\":" ++ (text ++ (codes ",\"verdicts\":" ++ (others ++ codes "}"))) ≡ compact_text (answer_tree (Replied requests verdicts))
unfolding escape_byte
replied text others requests verdicts is are =
    ap₂ (λ (t u : List ℕ). codes "{\"requests\":" ++ (t ++ (codes ",\"verdicts\":" ++ (u ++ codes "}")))) is are

pub version : (number : ℕ) → codes "{\"version\":" ++ (decimal number ++ codes "}") ≡ compact_text (answer_tree (Version number))
unfolding escape_byte
version number = refl

pub reaped : (text : List ℕ) (numbers : List ℕ) → text ≡ compact_text (numbers_tree numbers)
    → codes "{\"reaped\":" ++ (text ++ codes "}") ≡ compact_text (answer_tree (Reaped numbers))
unfolding escape_byte
reaped text numbers is = ap (λ (t : List ℕ). codes "{\"reaped\":" ++ (t ++ codes "}")) is

pub settled : (text more : List ℕ) (closed moved : List ℕ) (version : ℕ) → text ≡ compact_text (numbers_tree closed)
    → more ≡ given_text (codes "moved") numbers_tree (any_of moved)
    → codes "{\"closed\":" ++ (text ++ (codes "," ++ (more ++ (codes "\"version\":" ++ (decimal version ++ codes "}")))))
    ≡ compact_text (settled_tree closed moved version)
unfolding escape_byte
settled text more closed moved version is are =
    let end = member (codes "version") (number_tree version) no_members in
    ap₂ (λ (t u : List ℕ). codes "{\"closed\":" ++ (t ++ (44 ∷ (u ++ members_text false end)))) is are
    ∙ ap (λ (t : List ℕ). codes "{\"closed\":" ++ (compact_text (numbers_tree closed) ++ 44 ∷ t)) (in_front (codes "moved") numbers_tree (any_of moved) end refl)
    ∙ ap (λ (t : List ℕ). codes "{\"closed\":" ++ (compact_text (numbers_tree closed) ++ t)) (sym (is_behind (codes "moved") numbers_tree (any_of moved) end refl))

-- connections that moved, as a member: none where none did
pub none_moved : (moved : List ℕ) → length moved ≡ 0 → [] ≡ given_text (codes "moved") numbers_tree (any_of moved)
none_moved [] h = refl
none_moved (first ∷ others) h = cc

pub some_moved : (text : List ℕ) (moved : List ℕ) → length moved ≢ 0 → text ≡ compact_text (numbers_tree moved)
    → codes "\"moved\":" ++ (text ++ codes ",") ≡ given_text (codes "moved") numbers_tree (any_of moved)
unfolding escape_byte
some_moved text [] h is = absurd (h refl)
some_moved text (first ∷ others) h is = ap (λ (t : List ℕ). codes "\"moved\":" ++ (t ++ codes ",")) is
