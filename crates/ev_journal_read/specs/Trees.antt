-- The row that a tree would be. A tree that isn't a row's may give one all the same, since members that no row has are
-- passed over: such a row's text is another than the tree's. This project's own.
use Rattle.std.specs.Prelude.{ℕ, List, [], ◌∷◌, codes, Option, None, Some, option_map, option_and_then}
use Rattle.std.specs.Str.{bytes_eq}
use Rattle.std.specs.Prelude.{if◌then◌else◌}
use denote.Ref.{Bor}
use Rattle.serde_json.specs.Data.{Data, string, Members, no_members, member}
use Rattle.serde_json.specs.Find.{get, as_str, as_object}
use Rattle.serde_json.specs.View.{view}
use Rattle.serde_json.specs.declared.value.Value.{Value}
use Rattle.ev_types.specs.declared.contents.Kind.{Kind}
use Rattle.ev_types.specs.declared.contents.Request.{Request}
use Rattle.ev_types.specs.declared.events.Actor.{Actor}
use Rattle.ev_types.specs.declared.events.Op.{Op}
use Rattle.ev_types.specs.declared.events.Verdict.{Verdict}
use Rattle.ev_types.specs.declared.events.Answer.{Answer}
use Rattle.ev_types.specs.declared.events.Answer.TheVariants.{Moved, Replied, Version, Reaped, On, Settled}
use Rattle.ev_types.specs.declared.origins.ChainPlace.{ChainPlace}
use Rattle.ev_types.specs.declared.origins.ChainPlace.TheVariants.{At}
use Rattle.ev_types.specs.declared.ways.Way.{Way}
use Rattle.ev_types.specs.declared.ways.Way.TheVariants.{Elsewhere, NoSecret, Local, Served}
use Rattle.ev_types.specs.declared.hosts.Host.{Host}
use Rattle.ev_types.specs.declared.journals.Row.{Row}
use Rattle.ev_tree.specs.Scalars.{list_in}
use Rattle.ev_script.specs.Members.{whole_within, name_of, member_of, member_or}
use Rattle.ev_journal_read.specs.declared.requests.RequestTexts.{RequestTexts}
use Rattle.ev_journal_read.specs.declared.requests.RequestLists.{RequestLists}
use Rattle.ev_journal_read.specs.declared.rows.RowHead.{RowHead}
use Rattle.ev_types.specs.Kinds.{kind_of_url}
use Rattle.ev_journal_read.specs.Words.{actor_named, op_named, verdict_named, answer_named, place_named, way_named}

-- ---- numbers

-- a number of 16 bits
abbrev pub number16 : Data → Option ℕ
number16 tree = whole_within 0 65535 tree

-- a number of 32 bits
abbrev pub number32 : Data → Option ℕ
number32 tree = whole_within 0 4294967295 tree

-- a number of 64 bits
abbrev pub number64 : Data → Option ℕ
number64 tree = whole_within 0 18446744073709551615 tree

-- a generation's number
abbrev pub generation_of : Data → Option ℕ
generation_of tree = whole_within 1 4294967295 tree

-- ---- lists

-- each tree as it reads, where all do
abbrev pub all_read : {A : Type 0} → (Data → Option A) → List Data → Option (List A)
all_read form [] = Some []
all_read form (tree ∷ trees) = option_and_then (λ one. option_map (λ others. one ∷ others) (all_read form trees)) (form tree)

-- the elements of an array, each as it reads
abbrev pub list_of : {A : Type 0} → (Data → Option A) → Data → Option (List A)
list_of form tree = option_and_then (all_read form) (list_in tree)

-- ---- a request

-- a name and the text at it
abbrev pub pair_of : List ℕ → Data → Option (List ℕ × List ℕ)
pair_of key tree = option_and_then (λ (name : List ℕ). option_map (λ (text : List ℕ). (name, text)) (as_str tree)) (name_of (string key))

-- each member's name and text, in order, where all are such
abbrev pub pairs_of : Members → Option (List (List ℕ × List ℕ))
pairs_of no_members = Some []
pairs_of (member key tree others) = option_and_then (λ (one : List ℕ × List ℕ). option_map (λ rest. one ∷ rest) (pairs_of others)) (pair_of key tree)

-- versions by name
abbrev pub versions_of : Data → Option (List (List ℕ × List ℕ))
versions_of tree = option_and_then pairs_of (as_object tree)

-- the versions that a request holds; none are given where they are absent
abbrev pub versions_at : Data → Option (List (List ℕ × List ℕ))
versions_at tree = member_or [] versions_of (codes "initialResourceVersions") tree

-- a text that is given
abbrev pub given_text : Data → Option (Option (List ℕ))
given_text tree = option_map (λ text. Some text) (as_str tree)

-- the id of a node that is given
abbrev pub given_id : Data → Option (Option (List ℕ))
given_id tree = member_of given_text (codes "id") tree

-- the message of an error that is given
abbrev pub given_message : Data → Option (Option (List ℕ))
given_message tree = member_of given_text (codes "message") tree

-- the names that a member lists; none are given where it is absent
abbrev pub names_at : List ℕ → Data → Option (List (List ℕ))
names_at key tree = member_or [] (list_of name_of) key tree

-- the kind of a request, by its type URL
abbrev pub kind_of : Data → Option Kind
kind_of tree = option_and_then kind_of_url (member_of as_str (codes "typeUrl") tree)

-- a request's node, nonce and error together
abbrev pub texts_with : Option (List ℕ) → Option (List ℕ) → Option (List ℕ) → RequestTexts
texts_with node nonce error = record { node = node; nonce = nonce; error = error }

-- the texts of a request: its node, its nonce and its error
abbrev pub texts_of : Data → Option RequestTexts
texts_of tree =
    option_and_then (λ node. option_and_then (λ nonce. option_map (λ error. texts_with node nonce error)
    (member_or None given_message (codes "errorDetail") tree))
    (member_or None given_text (codes "responseNonce") tree))
    (member_or None given_id (codes "node") tree)

-- a request's lists together
abbrev pub lists_with : List (List ℕ) → List (List ℕ) → List (List ℕ × List ℕ) → RequestLists
lists_with subscribe unsubscribe versions = record { subscribe = subscribe; unsubscribe = unsubscribe; versions = versions }

-- the lists of a request: what it subscribes to, what it leaves, and the versions that are held
abbrev pub lists_of : Data → Option RequestLists
lists_of tree =
    option_and_then (λ subscribe. option_and_then (λ unsubscribe. option_map (λ versions. lists_with subscribe unsubscribe versions)
    (versions_at tree))
    (names_at (codes "resourceNamesUnsubscribe") tree))
    (names_at (codes "resourceNamesSubscribe") tree)

-- the request of these parts
abbrev pub request_with : Kind → RequestTexts → RequestLists → Request
request_with kind texts lists = record {
  kind = kind;
  node = texts.node;
  subscribe = lists.subscribe;
  unsubscribe = lists.unsubscribe;
  versions = lists.versions;
  nonce = texts.nonce;
  error = texts.error;
}

-- the request that a tree would be
unfoldable pub request_of : Data → Option Request
request_of tree =
    option_and_then (λ kind. option_and_then (λ texts. option_map (λ lists. request_with kind texts lists) (lists_of tree)) (texts_of tree)) (kind_of tree)

-- ---- an answer

-- the tree of a member that was looked up, where there is one
abbrev pub tree_found : Option (Bor Value) → Option Data
tree_found found = option_map (λ (value : Bor Value). view value.now) found

-- a verdict is a word
abbrev pub verdict_of : Data → Option Verdict
verdict_of tree = option_and_then verdict_named (as_str tree)

-- requests, and the verdicts where there are any
abbrev pub sent_answer : Data → Option Data → Option Answer
sent_answer requests None = option_map Moved (list_of request_of requests)
sent_answer requests (Some verdicts) =
    option_and_then (λ sent. option_map (λ said. Replied sent said) (list_of verdict_of verdicts)) (list_of request_of requests)

-- the connections that moved; none are given where they are absent
abbrev pub moved_at : Data → Option (List ℕ)
moved_at tree = member_or [] (list_of number64) (codes "moved") tree

-- the connections that were closed and those that moved, and the version of a settle
abbrev pub settled_with : List ℕ → List ℕ → ℕ → Answer
settled_with closed moved version = Settled closed moved version

-- a version, and where it is a settle's the connections that were closed and those that moved
abbrev pub version_answer : Data → Option Data → Data → Option Answer
version_answer version None tree = option_map Version (number64 version)
version_answer version (Some closed) tree =
    option_and_then (λ number. option_and_then (λ closed. option_map (λ moved. settled_with closed moved number) (moved_at tree))
    (list_of number64 closed))
    (number64 version)

-- a connection that is answered at once, with a status
abbrev pub local_way : Data → Option (Way Host)
local_way tree = option_map (λ status. Local status) (member_of number16 (codes "status") tree)

-- the host of an address and a port
abbrev pub host_with : List ℕ → ℕ → Host
host_with address port = record { address = address; port = port }

-- the host that two members are
abbrev pub host_of : Data → Option Host
host_of tree =
    option_and_then (λ address. option_map (λ port. host_with address port) (member_of number16 (codes "port") tree))
    (member_of name_of (codes "address") tree)

-- a connection that goes to a host of a cluster
abbrev pub served_way : Data → Option (Way Host)
served_way tree =
    option_and_then (λ cluster. option_map (λ host. Served cluster host) (host_of tree)) (member_of generation_of (codes "cluster") tree)

-- a generation's number that is given
abbrev pub given_generation : Data → Option (Option ℕ)
given_generation tree = option_map (λ number. Some number) (generation_of tree)

-- the cluster that is named, where one is
abbrev pub cluster_at : Data → Option (Option ℕ)
cluster_at tree = member_or None given_generation (codes "cluster") tree

-- what becomes of a connection, by the word for it
abbrev pub way_of : List ℕ → Data → Option (Way Host)
way_of word tree =
    if bytes_eq word (codes "served") then served_way tree
    else if bytes_eq word (codes "local") then local_way tree
    else if bytes_eq word (codes "elsewhere") then option_map (λ cluster. Elsewhere cluster) (cluster_at tree)
    else if bytes_eq word (codes "noSecret") then option_map (λ cluster. NoSecret cluster) (cluster_at tree)
    else way_named word

-- a chain's place, by its number or by the word for it
abbrev pub place_by : Option (List ℕ) → Data → Option ChainPlace
place_by (Some word) tree = place_named word
place_by None tree = option_map (λ place. At place) (number32 tree)

-- a chain's place that is given
abbrev pub given_place : Data → Option (Option ChainPlace)
given_place tree = option_map (λ place. Some place) (place_by (as_str tree) tree)

-- the chain that was found, where one was
abbrev pub chain_at : Data → Option (Option ChainPlace)
chain_at tree = member_or None given_place (codes "chain") tree

-- what becomes of a connection that a listener takes, by the word for it
abbrev pub taken_answer : List ℕ → ℕ → Data → Option Answer
taken_answer word listener tree =
    option_and_then (λ chain. option_map (λ way. On listener chain way) (way_of word tree)) (chain_at tree)

-- a connection that a listener takes
abbrev pub result_answer : Data → Option Answer
result_answer tree =
    option_and_then (λ word. option_and_then (λ listener. taken_answer word listener tree) (member_of generation_of (codes "listener") tree))
    (member_of as_str (codes "result") tree)

-- the answer that a tree with these members would be
abbrev pub answer_with : Option Data → Option Data → Option Data → Data → Option Answer
answer_with (Some requests) version reaped tree = sent_answer requests (get (codes "verdicts") tree)
answer_with None (Some version) reaped tree = version_answer version (get (codes "closed") tree) tree
answer_with None None (Some reaped) tree = option_map Reaped (list_of generation_of reaped)
answer_with None None None tree = result_answer tree

-- the same of members that were looked up
abbrev pub answer_found : Option (Bor Value) → Option (Bor Value) → Option (Bor Value) → Data → Option Answer
answer_found requests version reaped tree = answer_with (tree_found requests) (tree_found version) (tree_found reaped) tree

-- the answer that a word or a tree would be
abbrev pub answer_by : Option (List ℕ) → Data → Option Answer
answer_by (Some word) tree = answer_named word
answer_by None tree = answer_with (get (codes "requests") tree) (get (codes "version") tree) (get (codes "reaped") tree) tree

-- the answer that a tree would be
unfoldable pub answer_of : Data → Option Answer
answer_of tree = answer_by (as_str tree) tree

-- ---- a row

-- who
abbrev pub actor_of : Data → Option Actor
actor_of tree = option_and_then actor_named (member_of as_str (codes "actor") tree)

-- what
abbrev pub op_of : Data → Option Op
op_of tree = option_and_then op_named (member_of as_str (codes "op") tree)

-- a row's head of these parts
abbrev pub head_with : Actor → ℕ → ℕ → Op → RowHead
head_with actor at step op = record { actor = actor; at = at; step = step; op = op }

-- a row's head: who, at which line and step of the script, and what
unfoldable pub head_of : Data → Option RowHead
head_of tree =
    option_and_then (λ actor. option_and_then (λ at. option_and_then (λ step. option_map (λ op. head_with actor at step op)
    (op_of tree))
    (member_of number32 (codes "step") tree))
    (member_of number32 (codes "at") tree))
    (actor_of tree)

-- the row of a head and an answer
abbrev pub row_with : RowHead → Answer → Row
row_with head answer = record { actor = head.actor; at = head.at; step = head.step; op = head.op; answer = answer }

-- the row that a tree would be
unfoldable pub row_of : Data → Option Row
row_of tree = option_and_then (λ head. option_map (λ answer. row_with head answer) (member_of answer_of (codes "answer") tree)) (head_of tree)
