-- After an entry of the stream a stream is open exactly where it is after the input's lines up to the entry's own.
use Rattle.std.proofs.Common.{◌≡◌, ◌∙◌, ℕ, zero, suc, ◌+◌, ◌<◌, ◌≤◌, ◌==◌, Bool, true, false, cond, not, ◌&&◌, ◌||◌, nat_le, nat_lt, List, [], ◌∷◌, ◌++◌, length, map, take, filter, filter_map, flat_map, Option, Some, None, codes, decimal, refl, sym, ap, ap₂, subst, arith, length-append, append_assoc}
use Rattle.std.specs.Prelude.{slice_get, option_and_then, option_map, option_to_list, unwrap_or}
use Rattle.std.specs.List.{AllByRecursion as ByRecursion, cons_option, last_or, range_with_len}
use Rattle.std.proofs.lemmas.Bool.{both_ways, not-false}
use Rattle.std.proofs.lemmas.Bool.Decides.{nat_tests}
use Rattle.std.proofs.lemmas.List.{append-nil, take-map}
use Rattle.std.proofs.lemmas.List.Elements.{filter-append, filter_map-append, recursion_from_All}
use Rattle.std.proofs.lemmas.Option.{slice_get-map, slice_get_within}
use Rattle.serde_json.specs.Data.{Data}
use Rattle.ev_types.specs.Events.{IsStream, MayMake}
use Rattle.ev_types.specs.Scripts.{IsScript, ScriptParts}
use Rattle.ev_types.specs.declared.events.Actor.{Actor}
use Rattle.ev_types.specs.declared.events.Actor.TheVariants.{Stream, Health as health, Timer, Main, Worker}
use Rattle.ev_types.specs.declared.events.Entry.{Entry}
use Rattle.ev_types.specs.declared.events.Event.{Event}
use Rattle.ev_types.specs.declared.events.Event.TheVariants.{Connect, Disconnect, Response, Health, FetchTimeout, DrainTimeout, TtlExpired, Publish, Reap, Accept, Close, Settle}
use Rattle.ev_types.specs.declared.events.Line.{Line}
use Rattle.ev_types.specs.declared.journals.Format.{Format}
use Rattle.ev_model.specs.World.{World, opening}
use Rattle.ev_model.specs.Runs.{RunsFrom, world_at}
use Rattle.ev_model.specs.Step.{step}
use Rattle.ev_model.specs.Operations.{IsRunOf, Operation, actor_same, actor_decides, all_operations, entries_of, followers, is_automatic, is_earlier, is_full_at, last_settle, line_operation, line_operations, operation_of, operations_of, step_behind}
use Rattle.ev_model_laws.proofs.OperationLists.{IsIn, at_in, filter_none}
use Rattle.ev_model_laws.proofs.RisingOperations.{IsRising, not_back, not_itself, operations_rise}
use Rattle.ev_model_laws.specs.MainSide.{stream_told}
use Rattle.ev_model_laws.proofs.HoldLemmas.{side_holds}
use Rattle.ev_model_laws.proofs.StreamLemmas.{stream_after}
use Rattle.ev_script.specs.declared.trees.ScriptTrees.{ScriptTrees}
use Rattle.ev_expand.proofs.ListLemmas.{in_get, in_kept}
use Rattle.ev_types.specs.Items.{ResponseParts}
use Rattle.ev_types.specs.Same.{bytes_decide}
use Rattle.ev_types.specs.declared.events.Profile.{Profile}
use Rattle.serde_json.specs.Find.{as_str}
use Rattle.ev_script.specs.Lines.{line_by, line_of}
use Rattle.ev_script.specs.Members.{member_of, is_op, is_word}
use Rattle.ev_trees.specs.Scripts.{moved}
use Rattle.ev_trees.proofs.MoveLemmas.{line-moves}
use Rattle.ev_expand.specs.Expanding.{due_at, gives, guarded_at, lines_due, place_of, written_line}
use Rattle.ev_expand.specs.Following.{DueParts, following_line}
use Rattle.ev_expand.specs.Fronts.{Front, behind, event_of, fronts, stream_at, stream_said}
use Rattle.ev_expand.specs.Said.{given_lines, lines_in, lines_said}
use Rattle.ev_expand.specs.Waiting.{WaitsAsSaid, following_response, has_guarded, stream_line, waiting_response}
use Rattle.ev_expand.proofs.ReadLemmas.{following_reads, waiting_reads, waiting_stays}
use Rattle.ev_expand.proofs.FrontLawLemmas.{fronts_taken}
use Rattle.ev_expand.proofs.SaidPlaceLemmas.{line_event, line_place}
use Rattle.ev_dns.specs.Resolving.{dns_rules, is_written}
use Rattle.ev_dns.specs.Templates.{by_names}
use Rattle.ev_dns.specs.LastAnswers.{answered_script}
use Rattle.ev_dns.proofs.EntryLemmas.{IsWithin, given_grows, of_fronts}
use Rattle.ev_dns.proofs.TextLemmas.{own_line}
use Rattle.ev_dns.proofs.RunOrderLemmas.{first_at}

-- ---- what operations say of the stream

abbrev is_mine : Operation → Bool
is_mine o = actor_same o.actor Stream

abbrev pub words : List Operation → List Bool
words os = filter_map (λ (o : Operation). stream_told o.event) os

stream_own : (actor : Actor) → IsStream actor → actor_same actor Stream ≡ true
stream_own Stream h = refl
stream_own health h = absurd h
stream_own Timer h = absurd h
stream_own Main h = absurd h
stream_own (Worker worker) h = absurd h

-- who isn't the stream says nothing of it
other_silent : (workers : ℕ) (actor : Actor) (event : Event) → MayMake workers actor event → actor_same actor Stream ≡ false → stream_told event ≡ None
other_silent workers actor Connect may h = absurd (both_ways (actor_same actor Stream) h (stream_own actor may))
other_silent workers actor Disconnect may h = absurd (both_ways (actor_same actor Stream) h (stream_own actor may))
other_silent workers actor (Response response) may h = refl
other_silent workers actor (Health cluster host healthy) may h = refl
other_silent workers actor (FetchTimeout timeout) may h = refl
other_silent workers actor (DrainTimeout listener) may h = refl
other_silent workers actor (TtlExpired kind name) may h = refl
other_silent workers actor Publish may h = refl
other_silent workers actor Reap may h = refl
other_silent workers actor (Accept ask) may h = refl
other_silent workers actor (Close connection) may h = refl
other_silent workers actor Settle may h = refl

-- ---- entries

kept_words : (o : Operation) (os : List Operation) (rest : List Bool) (mine : Bool) → (mine ≡ false → stream_told o.event ≡ None) → rest ≡ words os
    → cons_option (stream_told o.event) rest ≡ words (cond mine (o ∷ os) os)
kept_words o os rest true silent same = ap (cons_option (stream_told o.event)) same
kept_words o os rest false silent same = ap (λ told. cons_option told rest) (silent refl) ∙ same

entries_words : (format : Format) (workers n : ℕ) (world : World) (entries : List Entry) → RunsFrom format workers world entries
    → filter_map (λ (entry : Entry). stream_told entry.event) (take n entries) ≡ words (filter is_mine (map operation_of (take n entries)))
entries_words format workers zero world [] runs = refl
entries_words format workers zero world (entry ∷ entries) runs = refl
entries_words format workers (suc n) world [] runs = refl
entries_words format workers (suc n) world (entry ∷ entries) runs =
    kept_words (operation_of entry) (filter is_mine (map operation_of (take n entries)))
    (filter_map (λ (e : Entry). stream_told e.event) (take n entries)) (is_mine (operation_of entry))
    (λ other. other_silent workers entry.actor entry.event runs.0 other)
    (entries_words format workers n (step format world entry.actor entry.event).0 entries runs.2)

-- of those that pass a test and rise, the first up to one are those that aren't later
taken_rising : (mine : Operation → Bool) (os : List Operation) (k : ℕ) (o : Operation) → IsRising (filter mine os) → slice_get os k ≡ Some o → mine o ≡ true
    → filter mine (take (suc k) os) ≡ filter (λ p. not (is_earlier o p)) (filter mine os)
taken_rising mine [] k o rises there passes = absurd (cc)
taken_rising mine (x ∷ os) zero o rises there passes =
    let same : x ≡ o = cc in
    let own : mine x ≡ true = ap mine same ∙ passes in
    let above : (p : Operation) → IsIn p (filter mine os) → not (is_earlier o p) ≡ false =
    λ p is. ap not (subst (λ y. is_earlier y p ≡ true) same (first_at mine os x p (mine x) refl own rises is)) in
    first own ∙ ap (λ p. p ∷ []) same
    ∙ sym (ap (λ b. cond b (o ∷ filter (λ p. not (is_earlier o p)) (filter mine os)) (filter (λ p. not (is_earlier o p)) (filter mine os))) (ap not (not_itself o))
    ∙ ap (λ ps. o ∷ ps) (filter_none (λ p. not (is_earlier o p)) (filter mine os) above))
    ∙ ap (λ y. filter (λ p. not (is_earlier o p)) (y ∷ filter mine os)) (sym same)
    ∙ sym (ap (λ b. filter (λ p. not (is_earlier o p)) (cond b (x ∷ filter mine os) (filter mine os))) own)
  where
    first : mine x ≡ true → cond (mine x) (x ∷ []) [] ≡ x ∷ []
    first own = ap (λ b. cond b (x ∷ []) []) own
taken_rising mine (x ∷ os) (suc k) o rises there passes = by (mine x) refl rises (λ r. taken_rising mine os k o r there passes)
  where
    later : Operation → Bool
    later p = not (is_earlier o p)

    by : (b : Bool) → mine x ≡ b → IsRising (cond b (x ∷ filter mine os) (filter mine os))
        → (IsRising (filter mine os) → filter mine (take (suc k) os) ≡ filter later (filter mine os))
        → cond b (x ∷ filter mine (take (suc k) os)) (filter mine (take (suc k) os)) ≡ filter later (cond b (x ∷ filter mine os) (filter mine os))
    by true is r rest =
        let before : is_earlier x o ≡ true = at_in (λ p. is_earlier x p ≡ true) o (filter mine os) r.0 (in_kept mine os o (in_get os k o there) passes) in
        let stays : later x ≡ true = ap not (not_back x o before) in
        ap (λ ps. x ∷ ps) (rest r.1) ∙ sym (ap (λ b. cond b (x ∷ filter later (filter mine os)) (filter later (filter mine os))) stays)
    by false is r rest = rest r

-- ---- lines

-- what is said of the stream by operations of its own that are no later than this one
abbrev said_until : Operation → List Operation → List Bool
said_until o os = words (filter (λ p. not (is_earlier o p)) (filter is_mine os))

until_append : (o : Operation) (xs ys : List Operation) → said_until o (xs ++ ys) ≡ said_until o xs ++ said_until o ys
until_append o xs ys =
    ap (λ os. words (filter (λ p. not (is_earlier o p)) os)) (filter-append is_mine xs ys)
    ∙ ap words (filter-append (λ p. not (is_earlier o p)) (filter is_mine xs) (filter is_mine ys))
    ∙ filter_map-append (λ (p : Operation). stream_told p.event) (filter (λ p. not (is_earlier o p)) (filter is_mine xs)) (filter (λ p. not (is_earlier o p)) (filter is_mine ys))

silent_one : (o p : Operation) → stream_told p.event ≡ None → said_until o (p ∷ []) ≡ []
silent_one o p silent = by (is_mine p)
  where
    of : (b : Bool) → words (cond b (p ∷ []) []) ≡ []
    of true = ap (λ told. cons_option told []) silent
    of false = refl

    by : (mine : Bool) → words (filter (λ q. not (is_earlier o q)) (cond mine (p ∷ []) [])) ≡ []
    by true = of (not (is_earlier o p))
    by false = refl

silent_more : (o p : Operation) (os : List Operation) → stream_told p.event ≡ None → said_until o os ≡ [] → said_until o (p ∷ os) ≡ []
silent_more o p os silent rest = until_append o (p ∷ []) os ∙ ap₂ (λ (xs ys : List Bool). xs ++ ys) (silent_one o p silent) rest

followers_silent : (o : Operation) (script : ScriptParts) (line : Line) → said_until o (followers script line) ≡ []
followers_silent o script line = by (script.auto && is_automatic line.actor) (is_full_at script.lines line)
  where
    by : (automatic full : Bool) → said_until o (cond automatic (step_behind line 1 Publish ∷ step_behind line 2 Reap ∷ []) (cond full (step_behind line 1 Settle ∷ []) [])) ≡ []
    by true full = silent_more o (step_behind line 1 Publish) (step_behind line 2 Reap ∷ []) refl (silent_one o (step_behind line 2 Reap) refl)
    by false true = silent_one o (step_behind line 1 Settle) refl
    by false false = refl

settles_silent : (o : Operation) (script : ScriptParts) (workers : List ℕ) → said_until o (map (last_settle script) workers) ≡ []
settles_silent o script [] = refl
settles_silent o script (worker ∷ workers) = silent_more o (last_settle script worker) (map (last_settle script) workers) refl (settles_silent o script workers)

not_later : (m n k : ℕ) → not (nat_lt m n || ((m == n) && nat_lt k 0)) ≡ nat_le n m
not_later m n k = grind (arith, nat_tests)

-- what a line says of the stream, where it is no later
line_said : (o : Operation) (workers : ℕ) (line : Line) → MayMake workers line.actor line.event
    → said_until o (line_operation line ∷ []) ≡ cond (nat_le line.at o.at) (cons_option (stream_told line.event) []) []
line_said o workers line may = by (stream_told line.event) (actor_same line.actor Stream) refl refl
  where
    nothing : (b : Bool) → ◌≡◌ {A = List Bool} [] (cond b [] [])
    nothing true = refl
    nothing false = refl

    one : (b : Bool) → words (cond b (line_operation line ∷ []) []) ≡ cond b (cons_option (stream_told line.event) []) []
    one true = refl
    one false = refl

    by : (told : Option Bool) (mine : Bool) → stream_told line.event ≡ told → actor_same line.actor Stream ≡ mine
        → said_until o (line_operation line ∷ []) ≡ cond (nat_le line.at o.at) (cons_option (stream_told line.event) []) []
    by None mine silent is =
        silent_one o (line_operation line) silent ∙ nothing (nat_le line.at o.at) ∙ ap (λ told. cond (nat_le line.at o.at) (cons_option told []) []) (sym silent)
    by (Some opens) false says is = absurd (differ (sym says ∙ other_silent workers line.actor line.event may is))
      where
        differ : Some opens ≡ None → ⊥
        differ e = cc
    by (Some opens) true says is =
        ap (λ b. words (filter (λ q. not (is_earlier o q)) (cond b (line_operation line ∷ []) []))) is
        ∙ ap (λ b. words (cond b (line_operation line ∷ []) [])) (not_later o.at line.at o.step)
        ∙ one (nat_le line.at o.at)

-- ---- trees

told_said : (event : Event) → stream_told event ≡ stream_said event
told_said Connect = refl
told_said Disconnect = refl
told_said event = refl

-- what a tree says of the stream
abbrev pub said_by : Profile → Data → Option Bool
said_by profile tree = option_and_then stream_said (event_of profile tree)

-- what trees from this number on say, up to the last number
abbrev said_from : Profile → ℕ → ℕ → List Data → List Bool
said_from profile last at [] = []
said_from profile last at (tree ∷ trees) = cond (nat_le at last) (cons_option (said_by profile tree) []) [] ++ said_from profile last (at + 1) trees

no_line : (profile : Profile) (at : ℕ) (tree : Data) → line_of profile at tree ≡ None → said_by profile tree ≡ None
no_line profile at tree none =
    ap (λ (found : Option Line). option_and_then stream_said (option_map (λ (l : Line). l.event) found)) (line-moves profile at 0 tree ∙ ap (option_map (moved 0)) none)

nothing_there : (b : Bool) (rest : List Bool) (told : Option Bool) → told ≡ None → rest ≡ cond b (cons_option told []) [] ++ rest
nothing_there true rest told none = ap (λ t. cons_option t [] ++ rest) (sym none)
nothing_there false rest told none = refl

trees_said : (profile : Profile) (o : Operation) (script : ScriptParts) (at : ℕ) (trees : List Data) → ByRecursion (λ (line : Line). MayMake script.workers line.actor line.event) (lines_said profile at trees)
    → said_until o (flat_map (line_operations script) (lines_said profile at trees)) ≡ said_from profile o.at at trees
trees_said profile o script at [] may = refl
trees_said profile o script at (tree ∷ trees) may = by (line_of profile at tree) refl may (λ rest. trees_said profile o script (at + 1) trees rest)
  where
    by : (found : Option Line) → line_of profile at tree ≡ found
        → ByRecursion (λ (line : Line). MayMake script.workers line.actor line.event) (option_to_list found ++ lines_said profile (at + 1) trees)
        → (ByRecursion (λ (line : Line). MayMake script.workers line.actor line.event) (lines_said profile (at + 1) trees)
        → said_until o (flat_map (line_operations script) (lines_said profile (at + 1) trees)) ≡ said_from profile o.at (at + 1) trees)
        → said_until o (flat_map (line_operations script) (option_to_list found ++ lines_said profile (at + 1) trees)) ≡ said_from profile o.at at (tree ∷ trees)
    by None is all more = more all ∙ nothing_there (nat_le at o.at) (said_from profile o.at (at + 1) trees) (said_by profile tree) (no_line profile at tree is)
    by (Some line) is all more =
        let own : said_until o (line_operations script line) ≡ cond (nat_le at o.at) (cons_option (said_by profile tree) []) [] =
        until_append o (line_operation line ∷ []) (followers script line)
        ∙ ap₂ (λ (xs ys : List Bool). xs ++ ys) (line_said o script.workers line all.0) (followers_silent o script line)
        ∙ append-nil (cond (nat_le line.at o.at) (cons_option (stream_told line.event) []) [])
        ∙ ap (λ n. cond (nat_le n o.at) (cons_option (stream_told line.event) []) []) (line_place profile at tree line is)
        ∙ ap (λ told. cond (nat_le at o.at) (cons_option told []) []) (told_said line.event ∙ sym (ap (option_and_then stream_said) (line_event profile at tree line is))) in
        until_append o (line_operations script line) (flat_map (line_operations script) (lines_said profile (at + 1) trees))
        ∙ ap₂ (λ (xs ys : List Bool). xs ++ ys) own (more all.1)

from_append : (profile : Profile) (last at : ℕ) (xs ys : List Data) → said_from profile last at (xs ++ ys) ≡ said_from profile last at xs ++ said_from profile last (at + length xs) ys
from_append profile last at [] ys = let none : at ≡ at + 0 = omega arith in ap (λ n. said_from profile last n ys) none
from_append profile last at (x ∷ xs) ys =
    let place : at + 1 + length xs ≡ at + length (x ∷ xs) = omega arith in
    let here : List Bool = cond (nat_le at last) (cons_option (said_by profile x) []) [] in
    ap (λ rest. here ++ rest) (from_append profile last (at + 1) xs ys ∙ ap (λ n. said_from profile last (at + 1) xs ++ said_from profile last n ys) place)
    ∙ sym (append_assoc here (said_from profile last (at + 1) xs) (said_from profile last (at + length (x ∷ xs)) ys))

above : (m n : ℕ) → n < m → nat_le m n ≡ false
above m n h = grind (arith, nat_tests)

from_late : (profile : Profile) (last at : ℕ) (xs : List Data) → last < at → said_from profile last at xs ≡ []
from_late profile last at [] h = refl
from_late profile last at (x ∷ xs) h =
    ap (λ b. cond b (cons_option (said_by profile x) []) [] ++ said_from profile last (at + 1) xs) (above at last h) ∙ from_late profile last (at + 1) xs (omega (arith, h))

-- ---- what a line of the input gives says what the line does

resolved_silent : (profile : Profile) (line : Data) (found : Option (List ℕ)) → is_word (codes "resolved") found ≡ true → option_and_then (λ op. line_by profile op 0 line) found ≡ None
resolved_silent profile line None h = refl
resolved_silent profile line (Some op) h = ap (λ word. line_by profile word 0 line) ((bytes_decide op (codes "resolved")).0 h)

-- a line that isn't written has no event
pub unwritten_none : (profile : Profile) (line : Data) → is_written line ≡ false → event_of profile line ≡ None
unwritten_none profile line h =
    ap (option_map (λ (l : Line). l.event)) (resolved_silent profile line (member_of as_str (codes "op") line) (not-false (is_op (codes "resolved") line) h))

unwritten_silent : (profile : Profile) (line : Data) → is_written line ≡ false → said_by profile line ≡ None
unwritten_silent profile line h = ap (option_and_then stream_said) (unwritten_none profile line h)

response_silent : (profile : Profile) (tree : Data) (response : ResponseParts) → event_of profile tree ≡ Some (Response response) → said_by profile tree ≡ None
response_silent profile tree response is = ap (option_and_then stream_said) is

made_silent : (profile : Profile) (tree : Data) (response : ResponseParts) → line_of profile 0 tree ≡ Some (stream_line 0 response) → said_by profile tree ≡ None
made_silent profile tree response is = response_silent profile tree response (ap (option_map (λ (l : Line). l.event)) is)

own_said : (profile : Profile) (front : Front) → said_by profile (own_line profile front) ≡ said_by profile front.line
own_said profile front = by (has_guarded (by_names profile) front.line) refl
  where
    by : (b : Bool) → has_guarded (by_names profile) front.line ≡ b → said_by profile (own_line profile front) ≡ said_by profile front.line
    by true some =
        let reads : WaitsAsSaid (codes "dns/") (by_names profile) (guarded_at (dns_rules profile) front) front.line =
        waiting_reads (codes "dns/") (by_names profile) (guarded_at (dns_rules profile) front) front.line some in
        made_silent profile (own_line profile front) (waiting_response (codes "dns/") (by_names profile) (guarded_at (dns_rules profile) front) front.line reads.response) (reads.reads 0)
        ∙ sym (response_silent profile front.line reads.response reads.event)
    by false none = ap (said_by profile) (waiting_stays (codes "dns/") (by_names profile) (guarded_at (dns_rules profile) front) front.line none)

due_silent : (profile : Profile) (last at place : ℕ) (due : List DueParts) → said_from profile last at (lines_due (codes "dns/") (codes "dns-") place due) ≡ []
due_silent profile last at place [] = refl
due_silent profile last at place (first ∷ others) =
    sym (nothing_there (nat_le at last) [] (said_by profile (following_line (codes "dns/") (codes "dns-") (decimal place) (first ∷ others)))
    (made_silent profile (following_line (codes "dns/") (codes "dns-") (decimal place) (first ∷ others)) (following_response profile (codes "dns/") (codes "dns-") (decimal place) (first ∷ others))
    (following_reads profile (codes "dns/") (codes "dns-") (decimal place) (first ∷ others) 0 (omega arith))))

written_said : (profile : Profile) (last at : ℕ) (front : Front) (b : Bool) → is_written front.line ≡ b
    → said_from profile last at (cond b (own_line profile front ∷ []) []) ≡ cond (nat_le at last) (cons_option (said_by profile front.line) []) []
written_said profile last at front true is =
    append-nil (cond (nat_le at last) (cons_option (said_by profile (own_line profile front)) []) []) ∙ ap (λ told. cond (nat_le at last) (cons_option told []) []) (own_said profile front)
written_said profile last at front false is =
    nothing_there (nat_le at last) [] (said_by profile front.line) (unwritten_silent profile front.line is) ∙ append-nil (cond (nat_le at last) (cons_option (said_by profile front.line) []) [])

gives_said : (profile : Profile) (last at : ℕ) (front : Front) → said_from profile last at (gives (dns_rules profile) front) ≡ cond (nat_le at last) (cons_option (said_by profile front.line) []) []
gives_said profile last at front =
    let own : List Data = written_line (dns_rules profile) (guarded_at (dns_rules profile) front) front.line in
    from_append profile last at own (lines_due (codes "dns/") (codes "dns-") (place_of front) (due_at (dns_rules profile) front))
    ∙ ap₂ (λ (xs ys : List Bool). xs ++ ys) (written_said profile last at front (is_written front.line) refl) (due_silent profile last (at + length own) (place_of front) (due_at (dns_rules profile) front))
    ∙ append-nil (cond (nat_le at last) (cons_option (said_by profile front.line) []) [])

not_above : (m n : ℕ) → m ≤ n → nat_le m n ≡ true
not_above m n h = grind (arith, nat_tests)

-- of the lines that prefixes give, those up to a number that lies within the m-th
fronts_said : (profile : Profile) (last at m : ℕ) (fs : List Front) → m ≤ length fs → ((j : ℕ) → j < m → at + length (flat_map (gives (dns_rules profile)) (take j fs)) ≤ last)
    → last < at + length (flat_map (gives (dns_rules profile)) (take m fs)) → said_from profile last at (flat_map (gives (dns_rules profile)) fs) ≡ filter_map (λ (f : Front). said_by profile f.line) (take m fs)
fronts_said profile last at zero [] within before past = refl
fronts_said profile last at (suc m) [] within before past = absurd (omega (arith, within))
fronts_said profile last at zero (f ∷ fs) within before past = from_late profile last at (flat_map (gives (dns_rules profile)) (f ∷ fs)) (omega (arith, past))
fronts_said profile last at (suc m) (f ∷ fs) within before past =
    let here : at ≤ last = omega (arith, before 0 (omega arith)) in
    let joined : (j : ℕ) → length (gives (dns_rules profile) f ++ flat_map (gives (dns_rules profile)) (take j fs)) ≡ length (gives (dns_rules profile) f) + length (flat_map (gives (dns_rules profile)) (take j fs)) =
    λ j. length-append (gives (dns_rules profile) f) (flat_map (gives (dns_rules profile)) (take j fs)) in
    let rest : said_from profile last (at + length (gives (dns_rules profile) f)) (flat_map (gives (dns_rules profile)) fs) ≡ filter_map (λ (g : Front). said_by profile g.line) (take m fs) =
    fronts_said profile last (at + length (gives (dns_rules profile) f)) m fs (omega (arith, within))
    (λ j less. omega (arith, before (suc j) (omega (arith, less)), joined j)) (omega (arith, past, joined m)) in
    from_append profile last at (gives (dns_rules profile) f) (flat_map (gives (dns_rules profile)) fs)
    ∙ ap₂ (λ (xs ys : List Bool). xs ++ ys)
    (gives_said profile last at f ∙ ap (λ b. cond b (cons_option (said_by profile f.line) []) []) (not_above at last here)) rest
    ∙ one_more (said_by profile f.line) (filter_map (λ (g : Front). said_by profile g.line) (take m fs))
  where
    one_more : (told : Option Bool) (rest : List Bool) → cons_option told [] ++ rest ≡ cons_option told rest
    one_more None rest = refl
    one_more (Some b) rest = refl

behind_said : (profile : Profile) (first : Data) (fs : List Front) → filter_map (λ (f : Front). said_by profile f.line) (map (behind first) fs) ≡ filter_map (λ (f : Front). said_by profile f.line) fs
behind_said profile first [] = refl
behind_said profile first (f ∷ fs) = ap (cons_option (said_by profile f.line)) (behind_said profile first fs)

lines_said_by : (profile : Profile) (lines : List Data) → filter_map (λ (f : Front). said_by profile f.line) (fronts lines) ≡ filter_map (said_by profile) lines
lines_said_by profile [] = refl
lines_said_by profile (line ∷ lines) = ap (cons_option (said_by profile line)) (behind_said profile line (fronts lines) ∙ lines_said_by profile lines)

-- ---- in a run

-- after an entry of the stream a stream is open where it is so after the input's lines up to that by which the entry is
pub stream_agrees : (trees : ScriptTrees) (format : Format) (journal : List Entry) → IsScript (answered_script trees) → IsRunOf format (answered_script trees) journal
    → (k : ℕ) (entry : Entry) (index : ℕ) (front : Front) → slice_get journal k ≡ Some entry → entry.actor ≡ Stream → slice_get (fronts (lines_in trees)) index ≡ Some front
    → IsWithin trees.header.profile (lines_in trees) index entry.at
    → (world_at format (answered_script trees).workers (answered_script trees).node journal (k + 1)).stream ≡ stream_at trees.header.profile (take (index + 1) (lines_in trees))
stream_agrees trees format journal kept run k entry index front there own at within =
    let script : ScriptParts = answered_script trees in
    let lines : List Data = lines_in trees in
    let o : Operation = operation_of entry in
    let place : k + 1 ≡ suc k = omega arith in
    let holds : entries_of journal Stream ≡ operations_of script Stream = side_holds format script journal Stream kept tt run in
    let entries : filter_map (λ (e : Entry). stream_told e.event) (take (k + 1) journal) ≡ said_until o (all_operations script) =
    entries_words format script.workers (k + 1) (opening script.workers script.node) journal run.run.answers
    ∙ ap (λ n. words (filter is_mine (map operation_of (take n journal)))) place
    ∙ ap (λ os. words (filter is_mine os)) (sym (take-map operation_of (suc k) journal))
    ∙ ap words (taken_rising is_mine (map operation_of journal) k o (subst IsRising (sym holds) (operations_rise script Stream kept))
    (slice_get-map operation_of journal k ∙ ap (option_map operation_of) there) ((actor_decides entry.actor Stream).1 own))
    ∙ ap (λ os. words (filter (λ p. not (is_earlier o p)) os)) holds in
    let operations : said_until o (all_operations script) ≡ said_from trees.header.profile entry.at 2 (given_lines (dns_rules trees.header.profile) lines) =
    until_append o (flat_map (line_operations script) script.lines) (map (last_settle script) (range_with_len 0 script.workers))
    ∙ ap₂ (λ (xs ys : List Bool). xs ++ ys)
    (trees_said trees.header.profile o script 2 (given_lines (dns_rules trees.header.profile) lines) (recursion_from_All (λ (line : Line). MayMake script.workers line.actor line.event) script.lines kept.allowed))
    (settles_silent o script (range_with_len 0 script.workers))
    ∙ append-nil (said_from trees.header.profile entry.at 2 (given_lines (dns_rules trees.header.profile) lines)) in
    let input : said_from trees.header.profile entry.at 2 (given_lines (dns_rules trees.header.profile) lines) ≡ filter_map (said_by trees.header.profile) (take (index + 1) lines) =
    fronts_said trees.header.profile entry.at 2 (index + 1) (fronts lines) (omega (arith, slice_get_within (fronts lines) index front at))
    (λ j less. omega (arith, of_fronts (dns_rules trees.header.profile) lines j, given_grows (dns_rules trees.header.profile) lines j index (omega (arith, less)), within.from))
    (omega (arith, of_fronts (dns_rules trees.header.profile) lines (index + 1), within.to))
    ∙ ap (filter_map (λ (f : Front). said_by trees.header.profile f.line)) (sym (fronts_taken lines (index + 1))) ∙ lines_said_by trees.header.profile (take (index + 1) lines) in
    stream_after format (opening script.workers script.node) (take (k + 1) journal)
    ∙ ap (λ told. unwrap_or (last_or None told) false) (entries ∙ operations ∙ input)
