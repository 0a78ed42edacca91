-- The header and the lines.
use Rattle.std.proofs.Common.{◌≡◌, ℕ, List, [], ◌∷◌, Bool, false, cond, Option, None, Some, option_map, option_and_then, codes, refl, ap, ◌∙◌}
use Rattle.std.specs.Str.{bytes_eq}
use Rattle.serde_json.specs.Data.{Data}
use Rattle.serde_json.specs.Find.{as_str, as_bool}
use Rattle.ev_types.specs.Items.{ResponseParts}
use Rattle.ev_types.specs.declared.contents.Kind.{Kind}
use Rattle.ev_types.specs.Kinds.{is_by_name}
use Rattle.ev_types.specs.declared.limits.TheConstants.{MAX_WORKERS, MAX_NAME_LENGTH}
use Rattle.ev_types.specs.declared.hosts.Host.{Host}
use Rattle.ev_types.specs.declared.events.Actor.TheVariants.{Stream, Health as health, Timer, Worker}
use Rattle.ev_types.specs.declared.events.Ask.{Ask}
use Rattle.ev_types.specs.declared.events.Event.{Event}
use Rattle.ev_types.specs.declared.events.Event.TheVariants.{Response, Health, FetchTimeout, DrainTimeout, TtlExpired, Accept, Close, Settle}
use Rattle.ev_types.specs.declared.events.Line.{Line}
use Rattle.ev_types.specs.declared.events.Peer.{Peer}
use Rattle.ev_types.specs.declared.events.Profile.{Profile}
use Rattle.ev_types.specs.declared.events.Profile.TheVariants.{Own}
use Rattle.ev_wire.specs.Kinds.{read_in}
use Rattle.ev_wire.specs.Responses.{response_of}
use Rattle.ev_script.specs.declared.limits.TheConstants.{MAX_WORKER, MAX_NUMBER, MAX_PATH_LENGTH}
use Rattle.ev_script.specs.Faults.{worker_of}
use Rattle.ev_script.specs.Header.{profile_with, profile_of, header_of, settings_of}
use Rattle.ev_script.specs.Members.{whole_within, text_within, name_of, texts_in, member_of}
use Rattle.ev_script.specs.LineForms.{line_at, with_only, host_in, kind_with, kind_in}
use Rattle.ev_script.specs.StreamLines.{connect_line, disconnect_line, response_line}
use Rattle.ev_script.specs.HealthLines.{health_in, health_line}
use Rattle.ev_script.specs.TimerLines.{timeout_of, timeout_line, drain_line, expired_in, expired_line}
use Rattle.ev_script.specs.MainLines.{publish_line, reap_line}
use Rattle.ev_script.specs.Headers.{headers_of}
use Rattle.ev_script.specs.Peers.{peer_of, peer_in, maybe_peer_in, peer_at, ends_in}
use Rattle.ev_script.specs.Asks.{conn_in, pick_in, server_name_in, tls_in, alpn_in, handshake_in, named_host_in, path_in, headers_in, request_in, ask_in}
use Rattle.ev_script.specs.WorkerLines.{worker_in, worker_line, accept_members, accept_in, accept_line, close_line, settle_line}
use Rattle.ev_script.specs.Lines.{main_side_line, line_by, line_of}
use Rattle.ev_tree.specs.Floats.{whole}
use Rattle.ev_whole_laws.specs.OneForm.{NumbersHaveOneForm}
use Rattle.ev_whole_laws.proofs.Parts.{as_str-whole, as_bool-whole, and_then-by}
use Rattle.ev_whole_laws.proofs.Responses.{response_of-whole}
use Rattle.ev_whole_laws.proofs.LineMembers.{has_only-whole, whole_within-whole, text_within-whole, name_of-whole, texts_in-whole, headers_of-whole, member_of-whole, member_or-whole, has_format-whole}

-- ---- the header

profile_of-whole : (tree : Data) → profile_of (whole tree) ≡ profile_of tree
profile_of-whole tree = λ i. option_and_then profile_with (as_str-whole tree i)

header_of-whole : (tree : Data) → header_of (whole tree) ≡ header_of tree
header_of-whole tree = λ i.
    cond (has_only-whole (codes "workers" ∷ codes "auto" ∷ codes "node" ∷ codes "profile" ∷ []) tree i)
    (option_and_then
    (λ (workers : ℕ). option_and_then
    (λ (auto : Bool). option_and_then
    (λ (profile : Profile). option_map
    (λ (node : List ℕ). record { workers = workers; auto = auto; profile = profile; node = node })
    (member_or-whole (codes "warmgate") name_of name_of-whole (codes "node") tree i))
    (member_or-whole Own profile_of profile_of-whole (codes "profile") tree i))
    (member_or-whole false as_bool as_bool-whole (codes "auto") tree i))
    (member_of-whole (whole_within 1 MAX_WORKERS) (whole_within-whole 1 MAX_WORKERS) (codes "workers") tree i))
    None

-- ---- what lines have in common

pub host_in-whole : (tree : Data) → host_in (whole tree) ≡ host_in tree
host_in-whole tree = λ i. option_and_then
    (λ (address : List ℕ). option_map (λ (port : ℕ). record { address = address; port = port }) (member_of-whole (whole_within 0 65535) (whole_within-whole 0 65535) (codes "port") tree i))
    (member_of-whole name_of name_of-whole (codes "address") tree i)

pub kind_in-whole : (profile : Profile) (tree : Data) → kind_in profile (whole tree) ≡ kind_in profile tree
kind_in-whole profile tree = λ i. option_and_then (read_in profile) (option_and_then kind_with (member_of-whole as_str as_str-whole (codes "type") tree i))

-- a form of an object with these members alone
pub with_only-whole : {A : Type 0} (names : List (List ℕ)) (tree : Data) (there here : Option A) → there ≡ here → with_only names (whole tree) there ≡ with_only names tree here
with_only-whole names tree there here same = λ i. cond (has_only-whole (codes "op" ∷ names) tree i) (same i) None

-- ---- the lines

connect_line-whole : (at : ℕ) (tree : Data) → connect_line at (whole tree) ≡ connect_line at tree
connect_line-whole at tree = with_only-whole [] tree _ _ refl

disconnect_line-whole : (at : ℕ) (tree : Data) → disconnect_line at (whole tree) ≡ disconnect_line at tree
disconnect_line-whole at tree = with_only-whole [] tree _ _ refl

publish_line-whole : (at : ℕ) (tree : Data) → publish_line at (whole tree) ≡ publish_line at tree
publish_line-whole at tree = with_only-whole [] tree _ _ refl

reap_line-whole : (at : ℕ) (tree : Data) → reap_line at (whole tree) ≡ reap_line at tree
reap_line-whole at tree = with_only-whole [] tree _ _ refl

response_line-whole : (profile : Profile) (at : ℕ) (tree : Data) → response_line profile at (whole tree) ≡ response_line profile at tree
response_line-whole profile at tree =
    with_only-whole (codes "message" ∷ []) tree _ _
    (λ i. line_at at Stream
    (option_map (λ (response : ResponseParts). Response response) (member_of-whole (response_of profile) (response_of-whole profile) (codes "message") tree i)))

health_in-whole : (tree : Data) → health_in (whole tree) ≡ health_in tree
health_in-whole tree = λ i. option_and_then
    (λ (cluster : List ℕ). option_and_then
    (λ (host : Host). option_map (λ (healthy : Bool). Health cluster host healthy) (member_of-whole as_bool as_bool-whole (codes "healthy") tree i))
    (host_in-whole tree i))
    (member_of-whole name_of name_of-whole (codes "cluster") tree i)

health_line-whole : (at : ℕ) (tree : Data) → health_line at (whole tree) ≡ health_line at tree
health_line-whole at tree =
    with_only-whole (codes "cluster" ∷ codes "address" ∷ codes "port" ∷ codes "healthy" ∷ []) tree _ _ (λ i. line_at at health (health_in-whole tree i))

timeout_of-whole : (kind : Kind) (tree : Data) → timeout_of kind (whole tree) ≡ timeout_of kind tree
timeout_of-whole kind tree = λ i. cond (is_by_name kind)
    (with_only-whole (codes "type" ∷ codes "name" ∷ []) tree _ _
    (λ j. option_map (λ (name : List ℕ). FetchTimeout (record { kind = kind; name = Some name })) (member_of-whole name_of name_of-whole (codes "name") tree j)) i)
    (with_only-whole (codes "type" ∷ []) tree (Some (FetchTimeout (record { kind = kind; name = None }))) (Some (FetchTimeout (record { kind = kind; name = None }))) refl i)

timeout_line-whole : (profile : Profile) (at : ℕ) (tree : Data) → timeout_line profile at (whole tree) ≡ timeout_line profile at tree
timeout_line-whole profile at tree =
    ap (line_at at Timer)
    ((λ i. option_and_then (λ (kind : Kind). timeout_of kind (whole tree)) (kind_in-whole profile tree i))
    ∙ and_then-by (λ (kind : Kind). timeout_of kind (whole tree)) (λ (kind : Kind). timeout_of kind tree) (λ kind. timeout_of-whole kind tree) (kind_in profile tree))

drain_line-whole : (at : ℕ) (tree : Data) → drain_line at (whole tree) ≡ drain_line at tree
drain_line-whole at tree =
    with_only-whole (codes "listener" ∷ []) tree _ _
    (λ i. line_at at Timer (option_map (λ (name : List ℕ). DrainTimeout name) (member_of-whole name_of name_of-whole (codes "listener") tree i)))

expired_in-whole : (profile : Profile) (tree : Data) → expired_in profile (whole tree) ≡ expired_in profile tree
expired_in-whole profile tree = λ i. option_and_then
    (λ (kind : Kind). option_map (λ (name : List ℕ). TtlExpired kind name) (member_of-whole name_of name_of-whole (codes "name") tree i)) (kind_in-whole profile tree i)

expired_line-whole : (profile : Profile) (at : ℕ) (tree : Data) → expired_line profile at (whole tree) ≡ expired_line profile at tree
expired_line-whole profile at tree = with_only-whole (codes "type" ∷ codes "name" ∷ []) tree _ _ (λ i. line_at at Timer (expired_in-whole profile tree i))

-- ---- the lines of the workers

-- what is made of three parts and of five, each of which is the same
of_three : {A B C D : Type 0} (made : A → B → C → D) {a a2 : Option A} {b b2 : Option B} {c c2 : Option C} → a ≡ a2 → b ≡ b2 → c ≡ c2
    → option_and_then (λ (x : A). option_and_then (λ (y : B). option_map (λ (z : C). made x y z) c) b) a
    ≡ option_and_then (λ (x : A). option_and_then (λ (y : B). option_map (λ (z : C). made x y z) c2) b2) a2
of_three made first second third =
    λ i. option_and_then (λ x. option_and_then (λ y. option_map (λ z. made x y z) (third i)) (second i)) (first i)

of_five : {A B C D E F : Type 0} (made : A → B → C → D → E → F) {a a2 : Option A} {b b2 : Option B} {c c2 : Option C} {d d2 : Option D} {e e2 : Option E}
    → a ≡ a2 → b ≡ b2 → c ≡ c2 → d ≡ d2 → e ≡ e2
    → option_and_then (λ (x : A). option_and_then (λ (y : B). option_and_then (λ (z : C). option_and_then (λ (v : D). option_map (λ (w : E). made x y z v w) e) d) c) b) a
    ≡ option_and_then (λ (x : A). option_and_then (λ (y : B). option_and_then (λ (z : C). option_and_then (λ (v : D). option_map (λ (w : E). made x y z v w) e2) d2) c2) b2) a2
of_five made first second third fourth fifth =
    λ i. option_and_then (λ x. option_and_then (λ y. option_and_then (λ z. option_and_then (λ v. option_map (λ w. made x y z v w) (fifth i)) (fourth i)) (third i)) (second i)) (first i)

pub worker_in-whole : (tree : Data) → worker_in (whole tree) ≡ worker_in tree
worker_in-whole tree = member_of-whole (whole_within 0 MAX_WORKER) (whole_within-whole 0 MAX_WORKER) (codes "worker") tree

conn_in-whole : (tree : Data) → conn_in (whole tree) ≡ conn_in tree
conn_in-whole tree = member_of-whole (whole_within 0 MAX_NUMBER) (whole_within-whole 0 MAX_NUMBER) (codes "conn") tree

named_host_in-whole : (tree : Data) → named_host_in (whole tree) ≡ named_host_in tree
named_host_in-whole tree = member_or-whole [] (text_within 0 MAX_NAME_LENGTH) (text_within-whole 0 MAX_NAME_LENGTH) (codes "host") tree

path_in-whole : (tree : Data) → path_in (whole tree) ≡ path_in tree
path_in-whole tree = member_or-whole (codes "/") (text_within 0 MAX_PATH_LENGTH) (text_within-whole 0 MAX_PATH_LENGTH) (codes "path") tree

pick_in-whole : (tree : Data) → pick_in (whole tree) ≡ pick_in tree
pick_in-whole tree = member_or-whole 0 (whole_within 0 MAX_NUMBER) (whole_within-whole 0 MAX_NUMBER) (codes "pick") tree

server_name_in-whole : (tree : Data) → server_name_in (whole tree) ≡ server_name_in tree
server_name_in-whole tree = member_or-whole [] (text_within 0 MAX_NAME_LENGTH) (text_within-whole 0 MAX_NAME_LENGTH) (codes "serverName") tree

tls_in-whole : (tree : Data) → tls_in (whole tree) ≡ tls_in tree
tls_in-whole tree = member_or-whole false as_bool as_bool-whole (codes "tls") tree

alpn_in-whole : (tree : Data) → alpn_in (whole tree) ≡ alpn_in tree
alpn_in-whole tree = member_or-whole [] texts_in texts_in-whole (codes "alpn") tree

handshake_in-whole : (tree : Data) → handshake_in (whole tree) ≡ handshake_in tree
handshake_in-whole tree = of_three _ (server_name_in-whole tree) (tls_in-whole tree) (alpn_in-whole tree)

headers_in-whole : (tree : Data) → headers_in (whole tree) ≡ headers_in tree
headers_in-whole tree = member_or-whole [] headers_of headers_of-whole (codes "headers") tree

request_in-whole : (tree : Data) → request_in (whole tree) ≡ request_in tree
request_in-whole tree = of_three _ (named_host_in-whole tree) (path_in-whole tree) (headers_in-whole tree)

peer_in-whole : (tree : Data) → peer_in (whole tree) ≡ peer_in tree
peer_in-whole tree = λ i.
    cond (has_only-whole (codes "address" ∷ codes "port" ∷ []) tree i) (option_map peer_of (host_in-whole tree i)) None

maybe_peer_in-whole : (tree : Data) → maybe_peer_in (whole tree) ≡ maybe_peer_in tree
maybe_peer_in-whole tree = λ i. option_map (λ (peer : Peer). Some peer) (peer_in-whole tree i)

peer_at-whole : (name : List ℕ) (tree : Data) → peer_at name (whole tree) ≡ peer_at name tree
peer_at-whole name tree = member_or-whole None maybe_peer_in maybe_peer_in-whole name tree

ends_in-whole : (tree : Data) → ends_in (whole tree) ≡ ends_in tree
ends_in-whole tree = of_three _ (host_in-whole tree) (peer_at-whole (codes "source") tree) (peer_at-whole (codes "redirectedTo") tree)

ask_in-whole : (tree : Data) → ask_in (whole tree) ≡ ask_in tree
ask_in-whole tree = of_five _ (conn_in-whole tree) (ends_in-whole tree) (handshake_in-whole tree) (request_in-whole tree) (pick_in-whole tree)

pub worker_line-whole : (at : ℕ) (there here : Option Event) (tree : Data) → there ≡ here → worker_line at there (whole tree) ≡ worker_line at here tree
worker_line-whole at there here tree same = λ i. option_and_then (λ (worker : ℕ). line_at at (Worker worker) (same i)) (worker_in-whole tree i)

accept_in-whole : (tree : Data) → accept_in (whole tree) ≡ accept_in tree
accept_in-whole tree = λ i. option_map (λ (ask : Ask). Accept ask) (ask_in-whole tree i)

accept_line-whole : (profile : Profile) (at : ℕ) (tree : Data) → accept_line profile at (whole tree) ≡ accept_line profile at tree
accept_line-whole profile at tree =
    with_only-whole (accept_members profile) tree _ _ (worker_line-whole at (accept_in (whole tree)) (accept_in tree) tree (accept_in-whole tree))

close_line-whole : (at : ℕ) (tree : Data) → close_line at (whole tree) ≡ close_line at tree
close_line-whole at tree =
    with_only-whole (codes "worker" ∷ codes "conn" ∷ []) tree _ _
    (worker_line-whole at _ _ tree (λ i. option_map (λ (conn : ℕ). Close conn) (conn_in-whole tree i)))

settle_line-whole : (at : ℕ) (tree : Data) → settle_line at (whole tree) ≡ settle_line at tree
settle_line-whole at tree =
    with_only-whole (codes "worker" ∷ []) tree _ _ (worker_line-whole at (Some Settle) (Some Settle) tree refl)

-- ---- any line

main_side_line-whole : (profile : Profile) (op : List ℕ) (at : ℕ) (tree : Data) → main_side_line profile op at (whole tree) ≡ main_side_line profile op at tree
main_side_line-whole profile op at tree = λ i.
    cond (bytes_eq op (codes "connect")) (connect_line-whole at tree i)
    (cond (bytes_eq op (codes "disconnect")) (disconnect_line-whole at tree i)
    (cond (bytes_eq op (codes "response")) (response_line-whole profile at tree i)
    (cond (bytes_eq op (codes "health")) (health_line-whole at tree i)
    (cond (bytes_eq op (codes "fetchTimeout")) (timeout_line-whole profile at tree i)
    (cond (bytes_eq op (codes "drainTimeout")) (drain_line-whole at tree i)
    (cond (bytes_eq op (codes "ttlExpired")) (expired_line-whole profile at tree i)
    (cond (bytes_eq op (codes "publish")) (publish_line-whole at tree i)
    (cond (bytes_eq op (codes "reap")) (reap_line-whole at tree i) None))))))))

line_by-whole : (profile : Profile) (op : List ℕ) (at : ℕ) (tree : Data) → line_by profile op at (whole tree) ≡ line_by profile op at tree
line_by-whole profile op at tree = λ i.
    cond (bytes_eq op (codes "accept")) (accept_line-whole profile at tree i)
    (cond (bytes_eq op (codes "close")) (close_line-whole at tree i)
    (cond (bytes_eq op (codes "settle")) (settle_line-whole at tree i) (main_side_line-whole profile op at tree i)))

line_of-whole : (profile : Profile) (at : ℕ) (tree : Data) → line_of profile at (whole tree) ≡ line_of profile at tree
line_of-whole profile at tree =
    (λ i. option_and_then (λ (op : List ℕ). line_by profile op at (whole tree)) (member_of-whole as_str as_str-whole (codes "op") tree i))
    ∙ and_then-by (λ (op : List ℕ). line_by profile op at (whole tree)) (λ (op : List ℕ). line_by profile op at tree)
    (λ op. line_by-whole profile op at tree) (member_of as_str (codes "op") tree)

pub one_form : NumbersHaveOneForm
one_form tree = record {
  header = header_of-whole tree;
  line = λ profile at. line_of-whole profile at tree;
  response = λ profile. response_of-whole profile tree;
  journal = has_format-whole tree;
  heads = ap (option_map settings_of) (header_of-whole tree);
  lines = λ profile at. ap (option_map (λ (line : Line). worker_of line.actor)) (line_of-whole profile at tree);
}
