-- The tree of a row is canonical and flat, so that its text reads back as it.
use Rattle.std.proofs.Common.{◌≡◌, ℕ, ◌^◌, ◌<◌, ◌≤◌, List, [], ◌∷◌, map, Option, Some, None, Ordering, Less, Equal, Greater, codes, refl, arith}
use Rattle.std.specs.Prelude.{All, IfSome}
use Rattle.std.specs.Ordering.{nat_cmp, match_ordering}
use Rattle.std.specs.Cmp.Lexicographic.{slice_cmp}
use Rattle.serde_json.specs.Data.{Data, number, unsigned, string, array, object, Members, no_members, member, put, depth, items_depth, members_depth}
use Rattle.serde_json.specs.View.{items_of}
use Rattle.serde_json.specs.Read.{read, max_depth}
use Rattle.ev_types.specs.declared.contents.Request.{Request}
use Rattle.ev_types.specs.declared.events.Verdict.{Verdict}
use Rattle.ev_types.specs.declared.events.Answer.{Answer}
use Rattle.ev_types.specs.declared.events.Answer.TheVariants.{Ignored, Done, Moved, Replied, Version, Unchanged, Reaped, InUse, NoListener, NoChain, On, NotOpen, Settled}
use Rattle.ev_types.specs.declared.hosts.Host.{Host}
use Rattle.ev_types.specs.declared.origins.ChainPlace.{ChainPlace}
use Rattle.ev_types.specs.declared.origins.ChainPlace.TheVariants.{At, Default}
use Rattle.ev_types.specs.declared.ways.Way.{Way}
use Rattle.ev_types.specs.declared.ways.Way.TheVariants.{Undecided, Elsewhere, NoRoute, Redirect, NoCluster, NoEndpoint, NoSecret, Local, Served}
use Rattle.ev_types.specs.declared.journals.Row.{Row}
use Rattle.ev_types.specs.Kinds.{type_url}
use Rattle.ev_wire.specs.Requests.{request_tree, with_nonce, with_names, with_node, version_members, with_versions, with_error}
use Rattle.ev_journal.specs.Rendering.{number_tree, numbers_tree, verdict_tree, with_given, place_tree, going_tree, local_tree, served_tree, taken_tree, any_of, settled_tree, answer_tree, row_tree}
use Rattle.ev_journal.specs.Rows.{IsGeneration, IsHost, IsPlace, IsWay, AreConnections, IsAnswer, IsRow, row_text}
use Rattle.ev_journal_read.proofs.EachLemmas.{All-first, All-rest}
use Rattle.ev_journal_read.proofs.Canonical.{IsCanonical, AreCanonical, HaveCanonical, AreAbove, AreSorted, AreSorted-put, HaveCanonical-put}
use Rattle.ev_journal_read.proofs.ReadBack.{read-compact_text}

-- ---- canonical

-- members that are sorted and canonical
pub record AreGood (ms : Members) : Type 0 where
  pub sorted : AreSorted ms
  pub canonical : HaveCanonical ms

pub AreGood-none : AreGood no_members
AreGood-none = record { sorted = tt; canonical = tt }

pub AreGood-put : (k : List ℕ) (d : Data) (ms : Members) → IsCanonical d → AreGood ms → AreGood (put k d ms)
AreGood-put k d ms good h = record { sorted = AreSorted-put k d ms h.sorted; canonical = HaveCanonical-put k d ms good h.canonical }

AreGood-member : (k : List ℕ) (d : Data) (ms : Members) → IsCanonical d → AreAbove k ms → AreGood ms → AreGood (member k d ms)
AreGood-member k d ms good above h = record { sorted = (above, h.sorted); canonical = (good, h.canonical) }

-- a member that may be missing
AreGood-given : {A : Type 0} (P : A → Type 0) (k : List ℕ) (tree : A → Data) → ((a : A) → P a → IsCanonical (tree a)) → (value : Option A) (ms : Members) → IfSome value P
    → AreAbove k ms → AreGood ms → AreGood (with_given k tree value ms)
AreGood-given P k tree each None ms p above h = h
AreGood-given P k tree each (Some value) ms p above h = AreGood-member k (tree value) ms (each value p) above h

AreAbove-given : {A : Type 0} (j k : List ℕ) (tree : A → Data) (value : Option A) (ms : Members) → slice_cmp nat_cmp j k ≡ Less → AreAbove j ms → AreAbove j (with_given k tree value ms)
AreAbove-given j k tree None ms below above = above
AreAbove-given j k tree (Some value) ms below above = (below, above)

AreCanonical-map : {A : Type 0} (P : A → Type 0) (f : A → Data) → ((a : A) → P a → IsCanonical (f a)) → (xs : List A) → All P xs → AreCanonical (items_of (map f xs))
AreCanonical-map P f each [] h = tt
AreCanonical-map P f each (x ∷ xs) h = (each x (All-first P x xs h), AreCanonical-map P f each xs (All-rest P x xs h))

AreCanonical-each : {A : Type 0} (f : A → Data) → ((a : A) → IsCanonical (f a)) → (xs : List A) → AreCanonical (items_of (map f xs))
AreCanonical-each f each [] = tt
AreCanonical-each f each (x ∷ xs) = (each x, AreCanonical-each f each xs)

AreGood-nonce : (nonce : Option (List ℕ)) (ms : Members) → AreGood ms → AreGood (with_nonce nonce ms)
AreGood-nonce None ms h = h
AreGood-nonce (Some []) ms h = h
AreGood-nonce (Some (byte ∷ bytes)) ms h = AreGood-put (codes "responseNonce") (string (byte ∷ bytes)) ms tt h

AreGood-names : (key : List ℕ) (names : List (List ℕ)) (ms : Members) → AreGood ms → AreGood (with_names key names ms)
AreGood-names key [] ms h = h
AreGood-names key (name ∷ names) ms h = AreGood-put key (array (items_of (map string (name ∷ names)))) ms (AreCanonical-each string (λ _. tt) (name ∷ names)) h

AreGood-node : (node : Option (List ℕ)) (ms : Members) → AreGood ms → AreGood (with_node node ms)
AreGood-node None ms h = h
AreGood-node (Some id) ms h = AreGood-put (codes "node") (object (member (codes "id") (string id) no_members)) ms ((tt, tt), (tt, tt)) h

pub AreGood-version_members : (versions : List (List ℕ × List ℕ)) (ms : Members) → AreGood ms → AreGood (version_members versions ms)
AreGood-version_members [] ms h = h
AreGood-version_members (v ∷ vs) ms h = AreGood-version_members vs (put v.0 (string v.1) ms) (AreGood-put v.0 (string v.1) ms tt h)

AreGood-versions : (versions : List (List ℕ × List ℕ)) (ms : Members) → AreGood ms → AreGood (with_versions versions ms)
AreGood-versions [] ms h = h
AreGood-versions (v ∷ vs) ms h =
    let held = AreGood-version_members (v ∷ vs) no_members AreGood-none in
    AreGood-put (codes "initialResourceVersions") (object (version_members (v ∷ vs) no_members)) ms (held.sorted, held.canonical) h

AreGood-error : (error : Option (List ℕ)) (ms : Members) → AreGood ms → AreGood (with_error error ms)
AreGood-error None ms h = h
AreGood-error (Some message) ms h =
    AreGood-put (codes "errorDetail") (object (member (codes "code") (number (unsigned 13)) (member (codes "message") (string message) no_members))) ms
    (((refl, tt), (tt, tt)), (omega arith, (tt, tt))) h

IsCanonical-request : (request : Request) → IsCanonical (request_tree request)
IsCanonical-request request =
    let good =
    AreGood-error request.error _ (AreGood-versions request.versions _ (AreGood-node request.node _
    (AreGood-names (codes "resourceNamesSubscribe") request.subscribe _ (AreGood-names (codes "resourceNamesUnsubscribe") request.unsubscribe _
    (AreGood-nonce request.nonce _ (AreGood-put (codes "typeUrl") (string (type_url request.kind)) no_members tt AreGood-none)))))) in
    (good.sorted, good.canonical)

IsCanonical-generation : (n : ℕ) → IsGeneration n → IsCanonical (number_tree n)
IsCanonical-generation n h = omega (arith, h.small)

requests_canonical : (requests : List Request) → AreCanonical (items_of (map request_tree requests))
requests_canonical requests = AreCanonical-each request_tree IsCanonical-request requests

verdicts_canonical : (verdicts : List Verdict) → AreCanonical (items_of (map verdict_tree verdicts))
verdicts_canonical verdicts = AreCanonical-each verdict_tree (λ _. tt) verdicts

IsCanonical-place : (place : ChainPlace) → IsPlace place → IsCanonical (place_tree place)
IsCanonical-place (At place) h = omega (arith, h)
IsCanonical-place Default h = tt

IsCanonical-going : (word : List ℕ) (listener : ℕ) (chain : Option ChainPlace) (cluster : Option ℕ) → IsGeneration listener → IfSome chain IsPlace → IfSome cluster IsGeneration
    → IsCanonical (going_tree word listener chain cluster)
IsCanonical-going word listener chain cluster h k l =
    let end = member (codes "listener") (number_tree listener) (member (codes "result") (string word) no_members) in
    let named = with_given (codes "cluster") number_tree cluster end in
    let ends : AreGood end = record { sorted = ((refl, tt), (tt, tt)); canonical = (IsCanonical-generation listener h, (tt, tt)) } in
    let names : AreGood named = AreGood-given IsGeneration (codes "cluster") number_tree IsCanonical-generation cluster end l (refl, (refl, tt)) ends in
    let good : AreGood (with_given (codes "chain") place_tree chain named) = AreGood-given IsPlace (codes "chain") place_tree IsCanonical-place chain named k
    (AreAbove-given (codes "chain") (codes "cluster") number_tree cluster end refl (refl, (refl, tt))) names in
    (good.sorted, good.canonical)

IsCanonical-local : (listener : ℕ) (chain : Option ChainPlace) (status : ℕ) → IsGeneration listener → IfSome chain IsPlace → status < 2 ^ 16
    → IsCanonical (local_tree listener chain status)
IsCanonical-local listener chain status h k l =
    let small : status < 2 ^ 64 = omega (arith, l) in
    let end = member (codes "listener") (number_tree listener) (member (codes "result") (string (codes "local")) (member (codes "status") (number_tree status) no_members)) in
    let ends : AreGood end = record { sorted = ((refl, (refl, tt)), ((refl, tt), (tt, tt))); canonical = (IsCanonical-generation listener h, (tt, (small, tt))) } in
    let good : AreGood (with_given (codes "chain") place_tree chain end) =
    AreGood-given IsPlace (codes "chain") place_tree IsCanonical-place chain end k (refl, (refl, (refl, tt))) ends in
    (good.sorted, good.canonical)

IsCanonical-served : (listener : ℕ) (chain : Option ChainPlace) (cluster : ℕ) (host : Host) → IsGeneration listener → IfSome chain IsPlace → IsGeneration cluster → IsHost host
    → IsCanonical (served_tree listener chain cluster host)
IsCanonical-served listener chain cluster host h k l at =
    let small : host.port < 2 ^ 64 = omega (arith, at.port) in
    let end = member (codes "cluster") (number_tree cluster) (member (codes "listener") (number_tree listener)
    (member (codes "port") (number_tree host.port) (member (codes "result") (string (codes "served")) no_members))) in
    let ends : AreGood end = record {
      sorted = ((refl, (refl, (refl, tt))), ((refl, (refl, tt)), ((refl, tt), (tt, tt))));
      canonical = (IsCanonical-generation cluster l, (IsCanonical-generation listener h, (small, (tt, tt))));
    } in
    let chained : AreGood (with_given (codes "chain") place_tree chain end) =
    AreGood-given IsPlace (codes "chain") place_tree IsCanonical-place chain end k (refl, (refl, (refl, (refl, tt)))) ends in
    let good = AreGood-member (codes "address") (string host.address) _ tt
    (AreAbove-given (codes "address") (codes "chain") place_tree chain end refl (refl, (refl, (refl, (refl, tt))))) chained in
    (good.sorted, good.canonical)

IsCanonical-taken : (listener : ℕ) (chain : Option ChainPlace) (way : Way Host) → IsGeneration listener → IfSome chain IsPlace → IsWay way
    → IsCanonical (taken_tree listener chain way)
IsCanonical-taken listener chain Undecided h k l = IsCanonical-going _ listener chain None h k tt
IsCanonical-taken listener chain (Elsewhere cluster) h k l = IsCanonical-going _ listener chain cluster h k l
IsCanonical-taken listener chain NoRoute h k l = IsCanonical-going _ listener chain None h k tt
IsCanonical-taken listener chain Redirect h k l = IsCanonical-going _ listener chain None h k tt
IsCanonical-taken listener chain NoCluster h k l = IsCanonical-going _ listener chain None h k tt
IsCanonical-taken listener chain NoEndpoint h k l = IsCanonical-going _ listener chain None h k tt
IsCanonical-taken listener chain (NoSecret cluster) h k l = IsCanonical-going _ listener chain cluster h k l
IsCanonical-taken listener chain (Local status) h k l = IsCanonical-local listener chain status h k l
IsCanonical-taken listener chain (Served cluster host) h k l = IsCanonical-served listener chain cluster host h k l.0 l.1

IsCanonical-numbers : (numbers : List ℕ) → AreConnections numbers → IsCanonical (numbers_tree numbers)
IsCanonical-numbers numbers h = AreCanonical-map (λ (n : ℕ). n < 2 ^ 64) number_tree (λ n small. small) numbers h

IsCanonical-settled : (closed moved : List ℕ) (version : ℕ) → AreConnections closed → AreConnections moved → version < 2 ^ 64 → IsCanonical (settled_tree closed moved version)
IsCanonical-settled closed [] version h k l = (((refl, tt), (tt, tt)), (IsCanonical-numbers closed h, (l, tt)))
IsCanonical-settled closed (first ∷ others) version h k l =
    (((refl, (refl, tt)), ((refl, tt), (tt, tt))), (IsCanonical-numbers closed h, (IsCanonical-numbers (first ∷ others) k, (l, tt))))

IsCanonical-answer : (answer : Answer) → IsAnswer answer → IsCanonical (answer_tree answer)
IsCanonical-answer Ignored h = tt
IsCanonical-answer Done h = tt
IsCanonical-answer (Moved requests) h = ((tt, tt), (requests_canonical requests, tt))
IsCanonical-answer (Replied requests verdicts) h = (((refl, tt), (tt, tt)), (requests_canonical requests, (verdicts_canonical verdicts, tt)))
IsCanonical-answer (Version version) h = ((tt, tt), (h, tt))
IsCanonical-answer Unchanged h = tt
IsCanonical-answer (Reaped numbers) h = ((tt, tt), (AreCanonical-map IsGeneration number_tree IsCanonical-generation numbers h, tt))
IsCanonical-answer InUse h = tt
IsCanonical-answer NoListener h = tt
IsCanonical-answer NoChain h = tt
IsCanonical-answer (On listener chain way) h = IsCanonical-taken listener chain way h.0 h.1 h.2
IsCanonical-answer NotOpen h = tt
IsCanonical-answer (Settled closed moved version) h = IsCanonical-settled closed moved version h.0 h.1 h.2

pub IsCanonical-row : (row : Row) → IsAnswer row.answer → row.at < 2 ^ 32 → row.step < 2 ^ 32 → IsCanonical (row_tree row)
IsCanonical-row row answer at step =
    let at_small : row.at < 2 ^ 64 = omega arith in
    let step_small : row.step < 2 ^ 64 = omega arith in (
      ((refl, (refl, (refl, (refl, tt)))), ((refl, (refl, (refl, tt))), ((refl, (refl, tt)), ((refl, tt), (tt, tt))))),
      (tt, (IsCanonical-answer row.answer answer, (at_small, (tt, (step_small, tt))))),
    )

-- ---- flat

members_depth-put_at : (o : Ordering) (a b c : Members) (n : ℕ) → members_depth a ≤ n → members_depth b ≤ n → members_depth c ≤ n → members_depth (match_ordering o a b c) ≤ n
members_depth-put_at Less a b c n p q r = p
members_depth-put_at Equal a b c n p q r = q
members_depth-put_at Greater a b c n p q r = r

members_depth-put : (k : List ℕ) (d : Data) (ms : Members) (n : ℕ) → depth d ≤ n → members_depth ms ≤ n → members_depth (put k d ms) ≤ n
members_depth-put k d no_members n p q = omega arith
members_depth-put k d (member l e ms) n p q =
    members_depth-put_at _ (member k d (member l e ms)) (member l d ms) (member l e (put k d ms)) n (omega arith) (omega arith) (omega (arith, members_depth-put k d ms n p (omega arith)))

items_depth-each : {A : Type 0} (f : A → Data) (n : ℕ) → ((a : A) → depth (f a) ≤ n) → (xs : List A) → items_depth (items_of (map f xs)) ≤ n
items_depth-each f n each [] = omega arith
items_depth-each f n each (x ∷ xs) = omega (arith, each x, items_depth-each f n each xs)

depth-nonce : (nonce : Option (List ℕ)) (ms : Members) → members_depth ms ≤ 2 → members_depth (with_nonce nonce ms) ≤ 2
depth-nonce None ms h = h
depth-nonce (Some []) ms h = h
depth-nonce (Some (byte ∷ bytes)) ms h = members_depth-put (codes "responseNonce") (string (byte ∷ bytes)) ms 2 (omega arith) h

depth-names : (key : List ℕ) (names : List (List ℕ)) (ms : Members) → members_depth ms ≤ 2 → members_depth (with_names key names ms) ≤ 2
depth-names key [] ms h = h
depth-names key (name ∷ names) ms h =
    members_depth-put key (array (items_of (map string (name ∷ names)))) ms 2 (omega (arith, items_depth-each string 0 (λ _. omega arith) (name ∷ names))) h

depth-node : (node : Option (List ℕ)) (ms : Members) → members_depth ms ≤ 2 → members_depth (with_node node ms) ≤ 2
depth-node None ms h = h
depth-node (Some id) ms h = members_depth-put (codes "node") (object (member (codes "id") (string id) no_members)) ms 2 (omega arith) h

depth-version_members : (versions : List (List ℕ × List ℕ)) (ms : Members) → members_depth ms ≤ 0 → members_depth (version_members versions ms) ≤ 0
depth-version_members [] ms h = h
depth-version_members (v ∷ vs) ms h = depth-version_members vs (put v.0 (string v.1) ms) (members_depth-put v.0 (string v.1) ms 0 (omega arith) h)

depth-versions : (versions : List (List ℕ × List ℕ)) (ms : Members) → members_depth ms ≤ 2 → members_depth (with_versions versions ms) ≤ 2
depth-versions [] ms h = h
depth-versions (v ∷ vs) ms h =
    members_depth-put (codes "initialResourceVersions") (object (version_members (v ∷ vs) no_members)) ms 2 (omega (arith, depth-version_members (v ∷ vs) no_members (omega arith))) h

depth-error : (error : Option (List ℕ)) (ms : Members) → members_depth ms ≤ 2 → members_depth (with_error error ms) ≤ 2
depth-error None ms h = h
depth-error (Some message) ms h =
    members_depth-put (codes "errorDetail") (object (member (codes "code") (number (unsigned 13)) (member (codes "message") (string message) no_members))) ms 2 (omega arith) h

depth-request : (request : Request) → depth (request_tree request) ≤ 3
depth-request request =
    let typed = put (codes "typeUrl") (string (type_url request.kind)) no_members in
    let answering = with_nonce request.nonce typed in
    let leaving = with_names (codes "resourceNamesUnsubscribe") request.unsubscribe answering in
    let asking = with_names (codes "resourceNamesSubscribe") request.subscribe leaving in
    let first = with_node request.node asking in
    let holding = with_versions request.versions first in
    let flat : members_depth (with_error request.error holding) ≤ 2 =
    depth-error request.error holding (depth-versions request.versions first (depth-node request.node asking
    (depth-names (codes "resourceNamesSubscribe") request.subscribe leaving (depth-names (codes "resourceNamesUnsubscribe") request.unsubscribe answering
    (depth-nonce request.nonce typed (members_depth-put (codes "typeUrl") (string (type_url request.kind)) no_members 2 (omega arith) (omega arith))))))) in
    omega (arith, flat)

depth-given : {A : Type 0} (k : List ℕ) (tree : A → Data) → ((a : A) → depth (tree a) ≤ 1) → (value : Option A) (ms : Members) → members_depth ms ≤ 1
    → members_depth (with_given k tree value ms) ≤ 1
depth-given k tree each None ms h = h
depth-given k tree each (Some value) ms h = omega (arith, each value)

depth-place : (place : ChainPlace) → depth (place_tree place) ≤ 1
depth-place (At place) = omega arith
depth-place Default = omega arith

depth-numbers : (numbers : List ℕ) → depth (numbers_tree numbers) ≤ 1
depth-numbers numbers = omega (arith, items_depth-each number_tree 0 (λ _. omega arith) numbers)

depth-going : (word : List ℕ) (listener : ℕ) (chain : Option ChainPlace) (cluster : Option ℕ) → depth (going_tree word listener chain cluster) ≤ 5
depth-going word listener chain cluster =
    omega (
      arith,
      depth-given (codes "chain") place_tree depth-place chain _ (depth-given (codes "cluster") number_tree (λ _. omega arith) cluster
          (member (codes "listener") (number_tree listener) (member (codes "result") (string word) no_members)) (omega arith)),
    )

depth-local : (listener : ℕ) (chain : Option ChainPlace) (status : ℕ) → depth (local_tree listener chain status) ≤ 5
depth-local listener chain status =
    omega (
      arith,
      depth-given (codes "chain") place_tree depth-place chain
          (member (codes "listener") (number_tree listener) (member (codes "result") (string (codes "local")) (member (codes "status") (number_tree status) no_members))) (omega arith),
    )

depth-served : (listener : ℕ) (chain : Option ChainPlace) (cluster : ℕ) (host : Host) → depth (served_tree listener chain cluster host) ≤ 5
depth-served listener chain cluster host =
    omega (
      arith,
      depth-given (codes "chain") place_tree depth-place chain
          (member (codes "cluster") (number_tree cluster) (member (codes "listener") (number_tree listener)
          (member (codes "port") (number_tree host.port) (member (codes "result") (string (codes "served")) no_members)))) (omega arith),
    )

depth-taken : (listener : ℕ) (chain : Option ChainPlace) (way : Way Host) → depth (taken_tree listener chain way) ≤ 5
depth-taken listener chain Undecided = depth-going _ listener chain None
depth-taken listener chain (Elsewhere cluster) = depth-going _ listener chain cluster
depth-taken listener chain NoRoute = depth-going _ listener chain None
depth-taken listener chain Redirect = depth-going _ listener chain None
depth-taken listener chain NoCluster = depth-going _ listener chain None
depth-taken listener chain NoEndpoint = depth-going _ listener chain None
depth-taken listener chain (NoSecret cluster) = depth-going _ listener chain cluster
depth-taken listener chain (Local status) = depth-local listener chain status
depth-taken listener chain (Served cluster host) = depth-served listener chain cluster host

depth-settled : (closed moved : List ℕ) (version : ℕ) → depth (settled_tree closed moved version) ≤ 5
depth-settled closed moved version =
    omega (arith, depth-numbers closed, depth-given (codes "moved") numbers_tree depth-numbers (any_of moved) (member (codes "version") (number_tree version) no_members) (omega arith))

depth-answer : (answer : Answer) → depth (answer_tree answer) ≤ 5
depth-answer Ignored = omega arith
depth-answer Done = omega arith
depth-answer (Moved requests) = omega (arith, items_depth-each request_tree 3 depth-request requests)
depth-answer (Replied requests verdicts) =
    omega (arith, items_depth-each request_tree 3 depth-request requests, items_depth-each verdict_tree 0 (λ _. omega arith) verdicts)
depth-answer (Version version) = omega arith
depth-answer Unchanged = omega arith
depth-answer (Reaped numbers) = omega (arith, items_depth-each number_tree 0 (λ _. omega arith) numbers)
depth-answer InUse = omega arith
depth-answer NoListener = omega arith
depth-answer NoChain = omega arith
depth-answer (On listener chain way) = depth-taken listener chain way
depth-answer NotOpen = omega arith
depth-answer (Settled closed moved version) = depth-settled closed moved version

depth-row : (row : Row) → depth (row_tree row) ≤ max_depth
depth-row row = omega (arith, depth-answer row.answer)

-- the text of a row reads back as its tree
pub read-row_text : (row : Row) → IsRow row → read (row_text row) ≡ Some (row_tree row)
unfolding row_text
read-row_text row h = read-compact_text (row_tree row) (IsCanonical-row row h.answer h.at h.step) (depth-row row)
