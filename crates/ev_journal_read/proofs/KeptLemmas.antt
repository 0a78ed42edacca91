-- What is read of a tree is within the bounds of a row's types.
use Rattle.std.proofs.Common.{◌≡◌, ℕ, ◌^◌, ◌<◌, ◌≤◌, ◌&&◌, List, [], ◌∷◌, length, Bool, true, false, cond, nat_le, nat_lt, Option, Some, None, option_map, option_and_then, codes, refl, arith}
use Rattle.std.specs.Prelude.{⊤, All, IfSome}
use Rattle.std.specs.Str.Parse.{digits_value}
use Rattle.std.proofs.lemmas.Bool.{and_parts, leb-true, ltb-true}
use Rattle.serde_json.specs.Data.{Data, string, Members, no_members, member}
use Rattle.serde_json.specs.Find.{get, as_number, as_u64, as_str, as_object}
use Rattle.ev_types.specs.Texts.{IsName}
use Rattle.ev_types.specs.declared.limits.TheConstants.{MAX_NAME_LENGTH}
use Rattle.ev_types.specs.declared.events.Actor.TheVariants as actor
use Rattle.ev_types.specs.declared.events.Answer.TheVariants.{Ignored, Done, Unchanged, InUse, NoListener, NoChain, NotOpen, Moved, Replied, Version, Reaped, On}
use Rattle.ev_types.specs.declared.origins.ChainPlace.{ChainPlace}
use Rattle.ev_types.specs.declared.origins.ChainPlace.TheVariants.{At, Default}
use Rattle.ev_types.specs.declared.ways.Way.TheVariants.{Undecided, Elsewhere, NoRoute, Redirect, NoCluster, NoEndpoint, NoSecret, Local, Served}
use Rattle.ev_types.specs.declared.events.Verdict.TheVariants as verdict
use Rattle.ev_types.specs.declared.journals.Row.{Row}
use Rattle.ev_tree.specs.Scalars.{u32_text, list_in}
use Rattle.ev_script.specs.Members.{whole_within, name_of, member_of, or_default}
use Rattle.ev_journal.specs.Rows.{IsGeneration, IsHost, IsActor, IsVerdict, IsRequest, IsPlace, IsWay, AreConnections, IsAnswer}
use Rattle.ev_journal_read.specs.declared.requests.RequestLists.{RequestLists}
use Rattle.ev_journal_read.specs.declared.rows.RowHead.{RowHead}
use Rattle.ev_journal_read.specs.Words.{number_behind, actor_named, rule_of, verdict_named, answer_named, place_named, way_named}
use Rattle.ev_journal_read.specs.Trees.{number16, number32, number64, generation_of, all_read, list_of, pair_of, pairs_of, versions_of, versions_at, names_at, kind_of, texts_of, lists_with, lists_of, request_with, request_of, verdict_of, sent_answer, moved_at, settled_with, version_answer, local_way, host_with, host_of, served_way, given_generation, cluster_at, way_of, place_by, given_place, chain_at, taken_answer, result_answer, answer_with, answer_by, answer_of, actor_of, op_of, head_with, head_of, row_with, row_of}
use Rattle.ev_journal_read.proofs.EachLemmas.{All-none, All-more}
use Rattle.ev_journal_read.proofs.VersionLemmas.{HasName, AreNamed}

-- ---- options

-- what is read, if anything, has the property
pub record Kept {A : Type 0} (o : Option A) (P : A → Type 0) : Type 0 where
  pub holds : IfSome o P

nothing : {A : Type 0} (P : A → Type 0) → Kept None P
nothing P = record { holds = tt }

one : {A : Type 0} (P : A → Type 0) (a : A) → P a → Kept (Some a) P
one P a h = record { holds = h }

kept_then : {A B : Type 0} (P : A → Type 0) (Q : B → Type 0) (f : A → Option B) → ((a : A) → P a → Kept (f a) Q) → (o : Option A) → Kept o P → Kept (option_and_then f o) Q
kept_then P Q f each None h = nothing Q
kept_then P Q f each (Some a) h = each a h.holds

kept_map : {A B : Type 0} (P : A → Type 0) (Q : B → Type 0) (f : A → B) → ((a : A) → P a → Q (f a)) → (o : Option A) → Kept o P → Kept (option_map f o) Q
kept_map P Q f each None h = nothing Q
kept_map P Q f each (Some a) h = one Q (f a) (each a h.holds)

anything : {A : Type 0} (o : Option A) → Kept o (λ _. ⊤)
anything None = record { holds = tt }
anything (Some a) = record { holds = tt }

-- whatever comes before, what f gives is kept
kept_any : {A B : Type 0} (Q : B → Type 0) (f : A → Option B) → ((a : A) → Kept (f a) Q) → (o : Option A) → Kept (option_and_then f o) Q
kept_any Q f each None = nothing Q
kept_any Q f each (Some a) = each a

kept_if : {A : Type 0} (P : A → Type 0) (b : Bool) (o rest : Option A) → Kept o P → Kept rest P → Kept (cond b o rest) P
kept_if P true o rest h k = h
kept_if P false o rest h k = k

kept_test : {A : Type 0} (P : A → Type 0) (b : Bool) (a : A) → (b ≡ true → P a) → Kept (cond b (Some a) None) P
kept_test P true a h = one P a (h refl)
kept_test P false a h = nothing P

-- ---- numbers and names

record IsWithin (low high n : ℕ) : Type 0 where
  above : low ≤ n
  below : n ≤ high

whole_kept : (low high : ℕ) (tree : Data) → Kept (whole_within low high tree) (IsWithin low high)
whole_kept low high tree =
    kept_any (IsWithin low high) (λ n. cond (nat_le low n && nat_le n high) (Some n) None)
    (λ n. kept_test (IsWithin low high) (nat_le low n && nat_le n high) n
    (λ e. let both = and_parts (nat_le low n) (nat_le n high) e in record { above = leb-true low n both.0; below = leb-true n high both.1 }))
    (option_and_then as_u64 (as_number tree))

weaker : {A : Type 0} (P Q : A → Type 0) → ((a : A) → P a → Q a) → (o : Option A) → Kept o P → Kept o Q
weaker P Q each None h = nothing Q
weaker P Q each (Some a) h = one Q a (each a h.holds)

number16_kept : (tree : Data) → Kept (number16 tree) (λ (n : ℕ). n < 2 ^ 16)
number16_kept tree = weaker (IsWithin 0 65535) (λ (n : ℕ). n < 2 ^ 16) (λ n h. omega (arith, h.below)) (number16 tree) (whole_kept 0 65535 tree)

number32_kept : (tree : Data) → Kept (number32 tree) (λ (n : ℕ). n < 2 ^ 32)
number32_kept tree = weaker (IsWithin 0 4294967295) (λ (n : ℕ). n < 2 ^ 32) (λ n h. omega (arith, h.below)) (number32 tree) (whole_kept 0 4294967295 tree)

number64_kept : (tree : Data) → Kept (number64 tree) (λ (n : ℕ). n < 2 ^ 64)
number64_kept tree =
    weaker (IsWithin 0 18446744073709551615) (λ (n : ℕ). n < 2 ^ 64) (λ n h. omega (arith, h.below)) (number64 tree) (whole_kept 0 18446744073709551615 tree)

generation_kept : (tree : Data) → Kept (generation_of tree) IsGeneration
generation_kept tree =
    weaker (IsWithin 1 4294967295) IsGeneration (λ n h. record { first = h.above; small = omega (arith, h.below) }) (generation_of tree) (whole_kept 1 4294967295 tree)

name_kept : (tree : Data) → Kept (name_of tree) IsName
name_kept tree =
    kept_any IsName (λ (text : List ℕ). cond (nat_le 1 (length text) && nat_le (length text) MAX_NAME_LENGTH) (Some text) None)
    (λ text. kept_test IsName (nat_le 1 (length text) && nat_le (length text) MAX_NAME_LENGTH) text
    (λ e. let both = and_parts (nat_le 1 (length text)) (nat_le (length text) MAX_NAME_LENGTH) e in
    record { given = leb-true 1 (length text) both.0; short = leb-true (length text) MAX_NAME_LENGTH both.1 }))
    (as_str tree)

-- ---- lists

all_kept : {A : Type 0} (P : A → Type 0) (form : Data → Option A) → ((tree : Data) → Kept (form tree) P) → (trees : List Data) → Kept (all_read form trees) (All P)
all_kept P form each [] = one (All P) [] (All-none P)
all_kept P form each (tree ∷ trees) =
    kept_then P (All P) (λ one. option_map (λ others. one ∷ others) (all_read form trees))
    (λ one h. kept_map (All P) (All P) (λ others. one ∷ others) (λ others k. All-more P one others h k) (all_read form trees) (all_kept P form each trees))
    (form tree) (each tree)

list_kept : {A : Type 0} (P : A → Type 0) (form : Data → Option A) → ((tree : Data) → Kept (form tree) P) → (tree : Data) → Kept (list_of form tree) (All P)
list_kept P form each tree = kept_any (All P) (all_read form) (all_kept P form each) (list_in tree)

-- a member that reads so
member_kept : {A : Type 0} (P : A → Type 0) (form : Data → Option A) → ((tree : Data) → Kept (form tree) P) → (key : List ℕ) (tree : Data) → Kept (member_of form key tree) P
member_kept P form each key tree = kept_any P form each (get key tree)

default_kept : {A : Type 0} (P : A → Type 0) (form : Data → Option A) (default : A) → P default → ((tree : Data) → Kept (form tree) P) → (o : Option Data) → Kept (or_default form default o) P
default_kept P form default h each None = one P default h
default_kept P form default h each (Some tree) = each tree

-- ---- words

u32_kept : (digits : List ℕ) → Kept (u32_text digits) (λ (n : ℕ). n < 2 ^ 32)
unfolding u32_text
u32_kept digits =
    kept_test (λ (n : ℕ). n < 2 ^ 32) _ (digits_value 10 digits) (λ e. ltb-true (digits_value 10 digits) (2 ^ 32) (and_parts _ _ e).1)

behind_kept : (letter : ℕ) (word : List ℕ) → Kept (number_behind letter word) (λ (n : ℕ). n < 2 ^ 32)
behind_kept letter [] = nothing (λ (n : ℕ). n < 2 ^ 32)
behind_kept letter (x ∷ xs) = kept_if (λ (n : ℕ). n < 2 ^ 32) _ (u32_text xs) None (u32_kept xs) (nothing (λ (n : ℕ). n < 2 ^ 32))

-- a word that is told apart by a test
named : {A : Type 0} (P : A → Type 0) (b : Bool) (a : A) (rest : Option A) → P a → Kept rest P → Kept (cond b (Some a) rest) P
named P b a rest h k = kept_if P b (Some a) rest (one P a h) k

actor_kept : (word : List ℕ) → Kept (actor_named word) IsActor
actor_kept word =
    named IsActor _ actor.Stream _ tt (named IsActor _ actor.Health _ tt (named IsActor _ actor.Timer _ tt (named IsActor _ actor.Main _ tt
    (kept_map (λ (n : ℕ). n < 2 ^ 32) IsActor actor.Worker (λ n h. h) (number_behind 119 word) (behind_kept 119 word)))))

verdict_kept : (word : List ℕ) → Kept (verdict_named word) IsVerdict
verdict_kept word =
    named IsVerdict _ verdict.New _ tt (named IsVerdict _ verdict.Same _ tt (named IsVerdict _ verdict.InPlace _ tt (named IsVerdict _ verdict.Back _ tt (named IsVerdict _ verdict.Kept _ tt (named IsVerdict _ verdict.Unasked _ tt (named IsVerdict _ verdict.Renewed _ tt
    (kept_any IsVerdict rule_of (λ n. kept_test IsVerdict (nat_lt n 256) (verdict.Refused n) (λ e. ltb-true n 256 e)) (number_behind 86 word))))))))

answer_word_kept : (word : List ℕ) → Kept (answer_named word) IsAnswer
answer_word_kept word =
    named IsAnswer _ Ignored _ tt (named IsAnswer _ Done _ tt (named IsAnswer _ Unchanged _ tt (named IsAnswer _ InUse _ tt (named IsAnswer _ NoListener _ tt
    (named IsAnswer _ NoChain _ tt (named IsAnswer _ NotOpen _ tt (nothing IsAnswer)))))))

way_word_kept : (word : List ℕ) → Kept (way_named word) IsWay
way_word_kept word =
    named IsWay _ Undecided _ tt (named IsWay _ NoRoute _ tt (named IsWay _ Redirect _ tt
    (named IsWay _ NoCluster _ tt (named IsWay _ NoEndpoint _ tt (nothing IsWay)))))

place_word_kept : (word : List ℕ) → Kept (place_named word) IsPlace
place_word_kept word = named IsPlace _ Default _ tt (nothing IsPlace)

-- ---- requests

pair_kept : (key : List ℕ) (tree : Data) → Kept (pair_of key tree) HasName
pair_kept key tree =
    kept_then IsName HasName (λ (name : List ℕ). option_map (λ (text : List ℕ). (name, text)) (as_str tree))
    (λ name h. kept_map (λ _. ⊤) HasName (λ (text : List ℕ). (name, text)) (λ text _. h) (as_str tree) (anything (as_str tree)))
    (name_of (string key)) (name_kept (string key))

pairs_kept : (ms : Members) → Kept (pairs_of ms) AreNamed
pairs_kept no_members = one AreNamed [] (All-none HasName)
pairs_kept (member key tree others) =
    kept_then HasName AreNamed (λ (first : List ℕ × List ℕ). option_map (λ rest. first ∷ rest) (pairs_of others))
    (λ first h. kept_map AreNamed AreNamed (λ rest. first ∷ rest) (λ rest k. All-more HasName first rest h k) (pairs_of others) (pairs_kept others))
    (pair_of key tree) (pair_kept key tree)

versions_kept : (tree : Data) → Kept (versions_of tree) AreNamed
versions_kept tree = kept_any AreNamed pairs_of pairs_kept (as_object tree)

names_kept : (key : List ℕ) (tree : Data) → Kept (names_at key tree) (All IsName)
names_kept key tree = default_kept (All IsName) (list_of name_of) [] (All-none IsName) (list_kept IsName name_of name_kept) (get key tree)

record AreLists (lists : RequestLists) : Type 0 where
  subscribed : All IsName lists.subscribe
  unsubscribed : All IsName lists.unsubscribe
  held : AreNamed lists.versions

lists_kept : (tree : Data) → Kept (lists_of tree) AreLists
lists_kept tree =
    kept_then (All IsName) AreLists _
    (λ subscribe s. kept_then (All IsName) AreLists _
    (λ unsubscribe u. kept_map AreNamed AreLists (lists_with subscribe unsubscribe) (λ versions v. record { subscribed = s; unsubscribed = u; held = v })
    (versions_at tree)
    (default_kept AreNamed versions_of [] (All-none HasName) versions_kept (get (codes "initialResourceVersions") tree)))
    (names_at (codes "resourceNamesUnsubscribe") tree) (names_kept (codes "resourceNamesUnsubscribe") tree))
    (names_at (codes "resourceNamesSubscribe") tree) (names_kept (codes "resourceNamesSubscribe") tree)

request_kept : (tree : Data) → Kept (request_of tree) IsRequest
unfolding request_of
request_kept tree =
    kept_any IsRequest _
    (λ kind. kept_any IsRequest _
    (λ texts. kept_map AreLists IsRequest (request_with kind texts) (λ lists h. record { subscribed = h.subscribed; unsubscribed = h.unsubscribed; held = h.held })
    (lists_of tree) (lists_kept tree))
    (texts_of tree))
    (kind_of tree)

-- ---- answers

sent_kept : (requests : Data) (verdicts : Option Data) → Kept (sent_answer requests verdicts) IsAnswer
sent_kept requests None = kept_map (All IsRequest) IsAnswer Moved (λ sent h. h) (list_of request_of requests) (list_kept IsRequest request_of request_kept requests)
sent_kept requests (Some verdicts) =
    kept_then (All IsRequest) IsAnswer _
    (λ sent h. kept_map (All IsVerdict) IsAnswer (Replied sent) (λ said k. (h, k)) (list_of verdict_of verdicts)
    (list_kept IsVerdict verdict_of (λ tree. kept_any IsVerdict verdict_named verdict_kept (as_str tree)) verdicts))
    (list_of request_of requests) (list_kept IsRequest request_of request_kept requests)

numbers_kept : (tree : Data) → Kept (list_of number64 tree) AreConnections
numbers_kept tree = list_kept (λ (n : ℕ). n < 2 ^ 64) number64 number64_kept tree

moved_kept : (tree : Data) → Kept (moved_at tree) AreConnections
moved_kept tree = default_kept AreConnections (list_of number64) [] (All-none (λ (n : ℕ). n < 2 ^ 64)) numbers_kept (get (codes "moved") tree)

version_kept : (version : Data) (closed : Option Data) (tree : Data) → Kept (version_answer version closed tree) IsAnswer
version_kept version None tree = kept_map (λ (n : ℕ). n < 2 ^ 64) IsAnswer Version (λ n h. h) (number64 version) (number64_kept version)
version_kept version (Some closed) tree =
    kept_then (λ (n : ℕ). n < 2 ^ 64) IsAnswer _
    (λ number h. kept_then AreConnections IsAnswer _
    (λ ones k. kept_map AreConnections IsAnswer (λ moved. settled_with ones moved number) (λ moved l. (k, l, h)) (moved_at tree) (moved_kept tree))
    (list_of number64 closed) (numbers_kept closed))
    (number64 version) (number64_kept version)

local_kept : (tree : Data) → Kept (local_way tree) IsWay
local_kept tree =
    kept_map (λ (n : ℕ). n < 2 ^ 16) IsWay (λ status. Local status) (λ status k. k) (member_of number16 (codes "status") tree)
    (member_kept (λ (n : ℕ). n < 2 ^ 16) number16 number16_kept (codes "status") tree)

host_kept : (tree : Data) → Kept (host_of tree) IsHost
host_kept tree =
    kept_then IsName IsHost _
    (λ address h. kept_map (λ (n : ℕ). n < 2 ^ 16) IsHost (host_with address) (λ port k. record { address = h; port = k }) (member_of number16 (codes "port") tree)
    (member_kept (λ (n : ℕ). n < 2 ^ 16) number16 number16_kept (codes "port") tree))
    (member_of name_of (codes "address") tree) (member_kept IsName name_of name_kept (codes "address") tree)

served_kept : (tree : Data) → Kept (served_way tree) IsWay
served_kept tree =
    kept_then IsGeneration IsWay _
    (λ cluster k. kept_map IsHost IsWay (λ host. Served cluster host) (λ host l. (k, l)) (host_of tree) (host_kept tree))
    (member_of generation_of (codes "cluster") tree) (member_kept IsGeneration generation_of generation_kept (codes "cluster") tree)

-- a cluster's number, where one is given
IsGiven : Option ℕ → Type 0
IsGiven cluster = IfSome cluster IsGeneration

given_kept : (tree : Data) → Kept (given_generation tree) IsGiven
unfolding IsGiven
given_kept tree = kept_map IsGeneration IsGiven (λ (number : ℕ). Some number) (λ number h. h) (generation_of tree) (generation_kept tree)

cluster_kept : (tree : Data) → Kept (cluster_at tree) IsGiven
unfolding IsGiven
cluster_kept tree = default_kept IsGiven given_generation None tt given_kept (get (codes "cluster") tree)

way_kept : (word : List ℕ) (tree : Data) → Kept (way_of word tree) IsWay
unfolding IsGiven
way_kept word tree =
    kept_if IsWay _ _ _ (served_kept tree) (kept_if IsWay _ _ _ (local_kept tree)
    (kept_if IsWay _ _ _ (kept_map IsGiven IsWay (λ (cluster : Option ℕ). Elsewhere cluster) (λ cluster k. k) (cluster_at tree) (cluster_kept tree))
    (kept_if IsWay _ _ _ (kept_map IsGiven IsWay (λ (cluster : Option ℕ). NoSecret cluster) (λ cluster k. k) (cluster_at tree) (cluster_kept tree))
    (way_word_kept word))))

-- a chain's place, where one is given
IsFound : Option ChainPlace → Type 0
IsFound chain = IfSome chain IsPlace

place_kept : (word : Option (List ℕ)) (tree : Data) → Kept (place_by word tree) IsPlace
place_kept (Some word) tree = place_word_kept word
place_kept None tree = kept_map (λ (n : ℕ). n < 2 ^ 32) IsPlace (λ place. At place) (λ place h. h) (number32 tree) (number32_kept tree)

found_kept : (tree : Data) → Kept (given_place tree) IsFound
unfolding IsFound
found_kept tree = kept_map IsPlace IsFound (λ (place : ChainPlace). Some place) (λ place h. h) (place_by (as_str tree) tree) (place_kept (as_str tree) tree)

chain_kept : (tree : Data) → Kept (chain_at tree) IsFound
unfolding IsFound
chain_kept tree = default_kept IsFound given_place None tt found_kept (get (codes "chain") tree)

taken_kept : (word : List ℕ) (listener : ℕ) → IsGeneration listener → (tree : Data) → Kept (taken_answer word listener tree) IsAnswer
unfolding IsFound
taken_kept word listener h tree =
    kept_then IsFound IsAnswer _
    (λ chain k. kept_map IsWay IsAnswer (λ way. On listener chain way) (λ way l. (h, k, l)) (way_of word tree) (way_kept word tree))
    (chain_at tree) (chain_kept tree)

result_kept : (tree : Data) → Kept (result_answer tree) IsAnswer
result_kept tree =
    kept_any IsAnswer _
    (λ word. kept_then IsGeneration IsAnswer (λ listener. taken_answer word listener tree) (λ listener h. taken_kept word listener h tree)
    (member_of generation_of (codes "listener") tree) (member_kept IsGeneration generation_of generation_kept (codes "listener") tree))
    (member_of as_str (codes "result") tree)

with_kept : (requests version reaped : Option Data) (tree : Data) → Kept (answer_with requests version reaped tree) IsAnswer
with_kept (Some requests) version reaped tree = sent_kept requests (get (codes "verdicts") tree)
with_kept None (Some version) reaped tree = version_kept version (get (codes "closed") tree) tree
with_kept None None (Some reaped) tree =
    kept_map (All IsGeneration) IsAnswer Reaped (λ numbers h. h) (list_of generation_of reaped) (list_kept IsGeneration generation_of generation_kept reaped)
with_kept None None None tree = result_kept tree

by_kept : (word : Option (List ℕ)) (tree : Data) → Kept (answer_by word tree) IsAnswer
by_kept (Some word) tree = answer_word_kept word
by_kept None tree = with_kept (get (codes "requests") tree) (get (codes "version") tree) (get (codes "reaped") tree) tree

answer_kept : (tree : Data) → Kept (answer_of tree) IsAnswer
unfolding answer_of
answer_kept tree = by_kept (as_str tree) tree

-- ---- rows

record IsHead (head : RowHead) : Type 0 where
  actor : IsActor head.actor
  at : head.at < 2 ^ 32
  step : head.step < 2 ^ 32

-- the parts of a row that is read
pub record HasParts (row : Row) : Type 0 where
  pub actor : IsActor row.actor
  pub at : row.at < 2 ^ 32
  pub step : row.step < 2 ^ 32
  pub answer : IsAnswer row.answer

head_kept : (tree : Data) → Kept (head_of tree) IsHead
unfolding head_of
head_kept tree =
    kept_then IsActor IsHead _
    (λ who w. kept_then (λ (n : ℕ). n < 2 ^ 32) IsHead _
    (λ at a. kept_then (λ (n : ℕ). n < 2 ^ 32) IsHead _
    (λ step s. kept_map (λ _. ⊤) IsHead (head_with who at step) (λ op _. record { actor = w; at = a; step = s }) (op_of tree) (anything (op_of tree)))
    (member_of number32 (codes "step") tree) (member_kept (λ (n : ℕ). n < 2 ^ 32) number32 number32_kept (codes "step") tree))
    (member_of number32 (codes "at") tree) (member_kept (λ (n : ℕ). n < 2 ^ 32) number32 number32_kept (codes "at") tree))
    (actor_of tree) (kept_any IsActor actor_named actor_kept (member_of as_str (codes "actor") tree))

-- the row that a tree would be is within its types' bounds
pub row_kept : (tree : Data) → Kept (row_of tree) HasParts
unfolding row_of
row_kept tree =
    kept_then IsHead HasParts _
    (λ head h. kept_map IsAnswer HasParts (row_with head) (λ answer k. record { actor = h.actor; at = h.at; step = h.step; answer = k })
    (member_of answer_of (codes "answer") tree) (member_kept IsAnswer answer_of answer_kept (codes "answer") tree))
    (head_of tree) (head_kept tree)
