-- The script that a command writes is within the bounds of scripts: its text has a byte for each resource.
use Rattle.std.proofs.Common.{◌≡◌, ℕ, ◌+◌, ◌<◌, ◌≤◌, ◌++◌, ◌∷◌, ◌&&◌, Bool, true, false, cond, List, [], length, map, get_or, codes, nat_le, IfSome, Option, None, Some, option_map, option_and_then, refl, subst, arith, length-append}
use Rattle.std.specs.Prelude.{option_to_list}
use Rattle.std.specs.Str.{bytes_eq}
use Rattle.std.proofs.lemmas.Bool.Decides.{nat_tests}
use Rattle.std.proofs.lemmas.List.{length-map}
use Rattle.std.proofs.lemmas.List.Sums.{sum_by-append, sum_by-cons}
use Rattle.serde_json.specs.Data.{Data, null}
use Rattle.serde_json.specs.Find.{get, as_bool, as_number, as_str, as_u64}
use Rattle.serde_json.specs.Written.{compact_text}
use Rattle.ev_types.specs.Items.{ResponseParts}
use Rattle.ev_types.specs.Scripts.{IsScript, items_in, items_of}
use Rattle.ev_types.specs.Texts.{IsName}
use Rattle.ev_types.specs.declared.contents.Kind.{Kind}
use Rattle.ev_types.specs.Kinds.{is_by_name}
use Rattle.ev_types.specs.declared.limits.TheConstants.{MAX_NAME_LENGTH, MAX_WORKERS}
use Rattle.ev_types.specs.declared.events.Actor.{Actor}
use Rattle.ev_types.specs.declared.events.Actor.TheVariants.{Stream, Health as health, Timer, Main, Worker}
use Rattle.ev_types.specs.declared.events.Event.{Event}
use Rattle.ev_types.specs.declared.events.Event.TheVariants.{Connect, Disconnect, Response, Health, FetchTimeout, DrainTimeout, TtlExpired, Publish, Reap, Accept, Close, Settle}
use Rattle.ev_types.specs.declared.events.Line.{Line}
use Rattle.ev_types.specs.declared.events.Profile.{Profile}
use Rattle.ev_types.specs.declared.events.Profile.TheVariants.{Own}
use Rattle.ev_journal.specs.Rendering.{line_text}
use Rattle.ev_wire.specs.Responses.{entries_of, is_response, item_of, nonce_of, parts_of, response_kind, response_of}
use Rattle.ev_script.specs.declared.forms.Settings.{Settings}
use Rattle.ev_script.specs.declared.header.Header.{Header}
use Rattle.ev_script.specs.Asks.{ask_in, conn_in}
use Rattle.ev_script.specs.Header.{header_of, profile_of, settings_of, IsHeader}
use Rattle.ev_script.specs.LineForms.{line_at, host_in, kind_in}
use Rattle.ev_script.specs.Lines.{line_of, line_by, main_side_line}
use Rattle.ev_script.specs.Members.{has_only, member_of, member_or, name_of, or_default, whole_within}
use Rattle.ev_script.specs.Script.{script_made}
use Rattle.ev_script.specs.ReadScript.{AreNumbered}
use Rattle.ev_script.specs.StreamLines.{response_line}
use Rattle.ev_script.specs.HealthLines.{health_line}
use Rattle.ev_script.specs.TimerLines.{named_timeout, whole_timeout, timeout_of, timeout_line, drain_line, expired_line}
use Rattle.ev_script.specs.WorkerLines.{worker_in, worker_line, accept_line, close_line, settle_line}
use Rattle.ev_script.proofs.KeptLemmas.{kept_line}
use Rattle.ev_script.proofs.ScriptLemmas.{script_kept}
use Rattle.ev_tree.specs.Floats.{whole}
use Rattle.ev_trees.specs.Trees.{AreWithinLimits, text_of_trees}
use Rattle.ev_expand.specs.Said.{AllAt, HasLine, lines_said}
use Rattle.ev_expand.proofs.ElementLemmas.{elements, get_elements, objects_count, text_elements, whole_elements}
use Rattle.ev_expand.proofs.SaidLemmas.{said_below, said_count, said_each}

-- ---- what is found, and what it keeps

chained : {A B : Type 0} (Q : A → Type 0) (P : B → Type 0) (f : A → Option B) (o : Option A) → IfSome o Q → ((x : A) → Q x → IfSome (f x) P) → IfSome (option_and_then f o) P
chained Q P f None h k = tt
chained Q P f (Some x) h k = k x h

mapped : {A B : Type 0} (Q : A → Type 0) (P : B → Type 0) (f : A → B) (o : Option A) → IfSome o Q → ((x : A) → Q x → P (f x)) → IfSome (option_map f o) P
mapped Q P f None h k = tt
mapped Q P f (Some x) h k = k x h

tested : {A : Type 0} (P : A → Type 0) (b : Bool) (o : Option A) → IfSome o P → IfSome (cond b o None) P
tested P true o h = h
tested P false o h = tt

either : {A : Type 0} (P : A → Type 0) (b : Bool) (o q : Option A) → IfSome o P → IfSome q P → IfSome (cond b o q) P
either P true o q h k = h
either P false o q h k = k

-- whatever is found
anything : {A : Type 0} (o : Option A) → IfSome o (λ x. Unit {0})
anything None = tt
anything (Some x) = tt

-- ---- the header

-- a number within bounds
abbrev IsBetween : ℕ → ℕ → ℕ → Type 0
IsBetween low high n = (low ≤ n) × (n ≤ high)

between : (low high n : ℕ) (b : Bool) → (nat_le low n && nat_le n high) ≡ b → IfSome (cond b (Some n) None) (IsBetween low high)
between low high n true e = (grind (arith, nat_tests), grind (arith, nat_tests))
between low high n false e = tt

whole_between : (low high : ℕ) (tree : Data) → IfSome (whole_within low high tree) (IsBetween low high)
whole_between low high tree =
    chained (λ n. Unit {0}) (IsBetween low high) (λ n. cond (nat_le low n && nat_le n high) (Some n) None) (option_and_then as_u64 (as_number tree)) (anything (option_and_then as_u64 (as_number tree)))
    (λ n _. between low high n (nat_le low n && nat_le n high) refl)

named : (text : List ℕ) (b : Bool) → (nat_le 1 (length text) && nat_le (length text) MAX_NAME_LENGTH) ≡ b → IfSome (cond b (Some text) None) IsName
named text true e = record { given = grind (arith, nat_tests); short = grind (arith, nat_tests) }
named text false e = tt

name_kept : (tree : Data) → IfSome (name_of tree) IsName
name_kept tree =
    chained (λ t. Unit {0}) IsName (λ text. cond (nat_le 1 (length text) && nat_le (length text) MAX_NAME_LENGTH) (Some text) None) (as_str tree) (anything (as_str tree))
    (λ text _. named text (nat_le 1 (length text) && nat_le (length text) MAX_NAME_LENGTH) refl)

default_kept : (found : Option Data) → IfSome (or_default name_of (codes "warmgate") found) IsName
default_kept None = record { given = omega arith; short = omega arith }
default_kept (Some tree) = name_kept tree

header_kept : (tree : Data) → IfSome (header_of tree) IsHeader
header_kept tree =
    tested IsHeader (has_only (codes "workers" ∷ codes "auto" ∷ codes "node" ∷ codes "profile" ∷ []) tree) _
    (chained (IsBetween 1 MAX_WORKERS) IsHeader _ (member_of (whole_within 1 MAX_WORKERS) (codes "workers") tree)
    (chained (λ d. Unit {0}) (IsBetween 1 MAX_WORKERS) (whole_within 1 MAX_WORKERS) (get (codes "workers") tree) (anything (get (codes "workers") tree)) (λ d _. whole_between 1 MAX_WORKERS d))
    (λ workers few.
    chained (λ b. Unit {0}) IsHeader _ (member_or false as_bool (codes "auto") tree) (anything (member_or false as_bool (codes "auto") tree)) (λ auto _.
    chained (λ p. Unit {0}) IsHeader _ (member_or Own profile_of (codes "profile") tree) (anything (member_or Own profile_of (codes "profile") tree)) (λ profile _.
    mapped IsName IsHeader (λ node. record { workers = workers; auto = auto; profile = profile; node = node }) (member_or (codes "warmgate") name_of (codes "node") tree) (default_kept (get (codes "node") tree))
    (λ node is. record { some_worker = few.0; few_workers = few.1; named = is })))))

header_keeps : (found : Option Header) (header : Header) → IfSome found IsHeader → found ≡ Some header → IsHeader header
header_keeps None header kept e = absurd (cc)
header_keeps (Some h) header kept e = let same : h ≡ header = cc in subst IsHeader same kept

-- ---- a line has no more resources than its tree has elements

-- an event with at most this many resources, and a line with one
abbrev BringsAtMost : ℕ → Event → Type 0
BringsAtMost n event = items_in event ≤ n

abbrev HasItems : ℕ → Line → Type 0
HasItems n line = items_in line.event ≤ n

line_with : (n at : ℕ) (actor : Actor) (event : Option Event) → IfSome event (BringsAtMost n) → IfSome (line_at at actor event) (HasItems n)
line_with n at actor None h = tt
line_with n at actor (Some e) h = h

parts_few : (profile : Profile) (kind : Option Kind) (nonce : List ℕ) (tree : Data) → length (parts_of profile kind nonce tree).items ≤ elements tree
unfolding entries_of
parts_few profile None nonce tree = omega arith
parts_few profile (Some kind) nonce tree = omega (arith, length-map (entries_of tree) (item_of profile kind), objects_count (codes "resources") tree)

-- a response that a tree is
abbrev IsFew : ℕ → ResponseParts → Type 0
IsFew n response = length response.items ≤ n

response_few : (profile : Profile) (tree : Data) → IfSome (response_of profile tree) (IsFew (elements tree))
unfolding response_of
response_few profile tree =
    tested (IsFew (elements tree)) (is_response profile tree) (Some (parts_of profile (response_kind profile tree) (nonce_of tree) tree))
    (parts_few profile (response_kind profile tree) (nonce_of tree) tree)

inner_few : (n : ℕ) (tree : Data) (found : Option ResponseParts) → elements tree ≤ n → IfSome found (IsFew (elements tree)) → IfSome found (IsFew n)
inner_few n tree None less h = tt
inner_few n tree (Some response) less h = omega (arith, less, h)

message_few : (profile : Profile) (n : ℕ) (message : Option Data) → IfSome message (λ d. elements d ≤ n) → IfSome (option_and_then (response_of profile) message) (IsFew n)
message_few profile n None h = tt
message_few profile n (Some d) h = inner_few n d (response_of profile d) h (response_few profile d)

module _ (profile : Profile) (tree : Data) where
  -- an event without resources
  bare : (at : ℕ) (names : List (List ℕ)) (actor : Actor) (event : Event) → items_in event ≡ 0 → IfSome (cond (has_only names tree) (line_at at actor (Some event)) None) (HasItems (elements tree))
  bare at names actor event none = tested (HasItems (elements tree)) (has_only names tree) (line_at at actor (Some event)) (omega (arith, none))

  response_line_few : (at : ℕ) → IfSome (response_line profile at tree) (HasItems (elements tree))
  response_line_few at =
      tested (HasItems (elements tree)) _ _ (line_with (elements tree) at Stream _
      (mapped (IsFew (elements tree)) (BringsAtMost (elements tree)) (λ response. Response response) (member_of (response_of profile) (codes "message") tree)
      (message_few profile (elements tree) (get (codes "message") tree) (get_elements (codes "message") tree)) (λ response few. few)))

  health_few : (at : ℕ) → IfSome (health_line at tree) (HasItems (elements tree))
  health_few at =
      tested (HasItems (elements tree)) _ _ (line_with (elements tree) at health _
      (chained (λ x. Unit {0}) (BringsAtMost (elements tree)) _ (member_of name_of (codes "cluster") tree) (anything (member_of name_of (codes "cluster") tree)) (λ cluster _.
      chained (λ x. Unit {0}) (BringsAtMost (elements tree)) _ (host_in tree) (anything (host_in tree)) (λ host _.
      mapped (λ x. Unit {0}) (BringsAtMost (elements tree)) (λ healthy. Health cluster host healthy) (member_of as_bool (codes "healthy") tree) (anything (member_of as_bool (codes "healthy") tree)) (λ healthy _. omega arith)))))

  timeout_few : (kind : Kind) → IfSome (timeout_of kind tree) (BringsAtMost (elements tree))
  timeout_few kind =
      either (BringsAtMost (elements tree)) (is_by_name kind) (named_timeout kind tree) (whole_timeout kind tree)
      (tested (BringsAtMost (elements tree)) _ _ (mapped (λ x. Unit {0}) (BringsAtMost (elements tree)) (λ name. FetchTimeout (record { kind = kind; name = Some name })) (member_of name_of (codes "name") tree) (anything (member_of name_of (codes "name") tree)) (λ name _. omega arith)))
      (tested (BringsAtMost (elements tree)) _ (Some (FetchTimeout (record { kind = kind; name = None }))) (omega arith))

  timeouts_few : (at : ℕ) → IfSome (timeout_line profile at tree) (HasItems (elements tree))
  timeouts_few at = line_with (elements tree) at Timer _ (chained (λ x. Unit {0}) (BringsAtMost (elements tree)) (λ kind. timeout_of kind tree) (kind_in profile tree) (anything (kind_in profile tree)) (λ kind _. timeout_few kind))

  drain_few : (at : ℕ) → IfSome (drain_line at tree) (HasItems (elements tree))
  drain_few at = tested (HasItems (elements tree)) _ _ (line_with (elements tree) at Timer _ (mapped (λ x. Unit {0}) (BringsAtMost (elements tree)) (λ name. DrainTimeout name) (member_of name_of (codes "listener") tree) (anything (member_of name_of (codes "listener") tree)) (λ name _. omega arith)))

  expired_few : (at : ℕ) → IfSome (expired_line profile at tree) (HasItems (elements tree))
  expired_few at =
      tested (HasItems (elements tree)) _ _ (line_with (elements tree) at Timer _
      (chained (λ x. Unit {0}) (BringsAtMost (elements tree)) _ (kind_in profile tree) (anything (kind_in profile tree)) (λ kind _.
      mapped (λ x. Unit {0}) (BringsAtMost (elements tree)) (λ name. TtlExpired kind name) (member_of name_of (codes "name") tree) (anything (member_of name_of (codes "name") tree)) (λ name _. omega arith))))

  worker_few : (at : ℕ) (event : Option Event) → IfSome event (BringsAtMost (elements tree)) → IfSome (worker_line at event tree) (HasItems (elements tree))
  worker_few at event few =
      chained (λ x. Unit {0}) (HasItems (elements tree)) (λ worker. line_at at (Worker worker) event) (worker_in tree) (anything (worker_in tree)) (λ worker _. line_with (elements tree) at (Worker worker) event few)

  accept_few : (at : ℕ) → IfSome (accept_line profile at tree) (HasItems (elements tree))
  accept_few at = tested (HasItems (elements tree)) _ _ (worker_few at _ (mapped (λ x. Unit {0}) (BringsAtMost (elements tree)) (λ ask. Accept ask) (ask_in tree) (anything (ask_in tree)) (λ ask _. omega arith)))

  close_few : (at : ℕ) → IfSome (close_line at tree) (HasItems (elements tree))
  close_few at = tested (HasItems (elements tree)) _ _ (worker_few at _ (mapped (λ x. Unit {0}) (BringsAtMost (elements tree)) (λ conn. Close conn) (conn_in tree) (anything (conn_in tree)) (λ conn _. omega arith)))

  settle_few : (at : ℕ) → IfSome (settle_line at tree) (HasItems (elements tree))
  settle_few at = tested (HasItems (elements tree)) _ _ (worker_few at (Some Settle) (omega arith))

  main_side_few : (op : List ℕ) (at : ℕ) → IfSome (main_side_line profile op at tree) (HasItems (elements tree))
  main_side_few op at =
      either (HasItems (elements tree)) (bytes_eq op (codes "connect")) _ _ (bare at (codes "op" ∷ []) Stream Connect refl)
      (either (HasItems (elements tree)) (bytes_eq op (codes "disconnect")) _ _ (bare at (codes "op" ∷ []) Stream Disconnect refl)
      (either (HasItems (elements tree)) (bytes_eq op (codes "response")) _ _ (response_line_few at)
      (either (HasItems (elements tree)) (bytes_eq op (codes "health")) _ _ (health_few at)
      (either (HasItems (elements tree)) (bytes_eq op (codes "fetchTimeout")) _ _ (timeouts_few at)
      (either (HasItems (elements tree)) (bytes_eq op (codes "drainTimeout")) _ _ (drain_few at)
      (either (HasItems (elements tree)) (bytes_eq op (codes "ttlExpired")) _ _ (expired_few at)
      (either (HasItems (elements tree)) (bytes_eq op (codes "publish")) _ _ (bare at (codes "op" ∷ []) Main Publish refl)
      (tested (HasItems (elements tree)) (bytes_eq op (codes "reap")) _ (bare at (codes "op" ∷ []) Main Reap refl)))))))))

  by_few : (op : List ℕ) (at : ℕ) → IfSome (line_by profile op at tree) (HasItems (elements tree))
  by_few op at =
      either (HasItems (elements tree)) (bytes_eq op (codes "accept")) _ _ (accept_few at)
      (either (HasItems (elements tree)) (bytes_eq op (codes "close")) _ _ (close_few at)
      (either (HasItems (elements tree)) (bytes_eq op (codes "settle")) _ _ (settle_few at)
      (main_side_few op at)))

  line_few : (at : ℕ) → IfSome (line_of profile at tree) (HasItems (elements tree))
  line_few at = chained (λ x. Unit {0}) (HasItems (elements tree)) (λ op. line_by profile op at tree) (member_of as_str (codes "op") tree) (anything (member_of as_str (codes "op") tree)) (λ op _. by_few op at)

-- ---- a script has no more resources than its text has bytes

one_item : (n : ℕ) (found : Option Line) → IfSome found (HasItems n) → items_of (option_to_list found) ≤ n
one_item n None few = omega arith
one_item n (Some line) few = omega (arith, sum_by-cons (λ (l : Line). items_in l.event) line [], few)

text_first : (tree : Data) (trees : List Data) → length (text_of_trees (tree ∷ trees)) ≡ length (compact_text tree) + 1 + length (text_of_trees trees)
unfolding line_text
text_first tree trees =
    omega (arith, length-append (compact_text tree ++ 10 ∷ []) (text_of_trees trees), length-append (compact_text tree) (10 ∷ []))

items_within : (profile : Profile) (at : ℕ) (trees : List Data) → items_of (lines_said profile at trees) ≤ length (text_of_trees (map whole trees))
items_within profile at [] = omega arith
items_within profile at (tree ∷ trees) =
    let sum : items_of (option_to_list (line_of profile at tree) ++ lines_said profile (at + 1) trees) ≡ items_of (option_to_list (line_of profile at tree)) + items_of (lines_said profile (at + 1) trees) =
    sum_by-append (λ (l : Line). items_in l.event) (option_to_list (line_of profile at tree)) (lines_said profile (at + 1) trees) in
    omega (
      arith,
      sum,
      one_item (elements tree) (line_of profile at tree) (line_few profile tree at),
      text_elements (whole tree),
      whole_elements tree,
      text_first (whole tree) (map whole trees),
      items_within profile (at + 1) trees,
    )

-- ---- the bounds

some_line : Data
some_line = null

numbered : (settings : Settings) (trees : List Data) → AllAt (HasLine settings) 2 trees → AreNumbered settings.workers (lines_said settings.profile 2 trees)
numbered settings trees all =
    let each = λ (k : ℕ) (line : Line) (h : k < length (lines_said settings.profile 2 trees)).
    kept_line settings.workers settings.profile (2 + k) (get_or trees k some_line) (get_or (lines_said settings.profile 2 trees) k line)
    (said_each settings 2 trees all k some_line line (omega (arith, h, said_count settings 2 trees all)))
    (said_below settings 2 trees all k line h) in
    record {
      places = λ k line h. omega (arith, (each k line h).0);
      allowed = λ k line h. (each k line h).1;
    }

-- the script of a header and lines whose text is within the limits of inputs is within the bounds of scripts
pub said_kept : (header : Header) (head : Data) (trees : List Data) → header_of head ≡ Some header → AllAt (HasLine (settings_of header)) 2 trees → AreWithinLimits (map whole (head ∷ trees))
    → IsScript (script_made header (lines_said header.profile 2 trees))
said_kept header head trees heads all limits =
    script_kept header (lines_said header.profile 2 trees) (header_keeps (header_of head) header (header_kept head) heads) (numbered (settings_of header) trees all)
    (omega (arith, said_count (settings_of header) 2 trees all, length-map trees whole, limits.few))
    (omega (arith, items_within header.profile 2 trees, text_first (whole head) (map whole trees), limits.small))
