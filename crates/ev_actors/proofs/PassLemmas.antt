-- One pass over the lines gives the operations in the order of a replay:
-- at each line what waits of a worker is what its next settle takes,
-- and it fills the batch where the script's lines force a settle.
use Rattle.std.proofs.Common.{◌≡◌, ◌≤◌, ℕ, zero, suc, ◌+◌, ◌%◌, ◌==◌, Bool, true, false, not, ◌&&◌, if◌then◌else◌, List, [], ◌∷◌, ◌++◌, map, filter, length, refl, ap, sym, ◌∙◌, subst, append_assoc, append-nil, arith, length-append}
use Rattle.std.specs.List.{AllByRecursion as ByRecursion, flat_map, range_with_len}
use Rattle.std.proofs.lemmas.Bool.{both_ways}
use Rattle.std.proofs.lemmas.Bool.Decides.{nat_tests}
use Rattle.std.proofs.lemmas.List.Elements.{filter-append, recursion_from_All}
use Rattle.ev_types.specs.Events.{MayMake, IsMainSide, IsWorkerOf, IsStream, IsHealth, IsTimer}
use Rattle.ev_types.specs.Scripts.{ScriptParts}
use Rattle.ev_types.specs.declared.events.Actor.{Actor}
use Rattle.ev_types.specs.declared.events.Actor.TheVariants.{Stream, Health, Timer, Main, Worker}
use Rattle.ev_types.specs.declared.events.Event.{Event}
use Rattle.ev_types.specs.declared.events.Event.TheVariants.{Connect, Disconnect, Response, Health as health, FetchTimeout, DrainTimeout, TtlExpired, Publish, Reap, Accept, Close, Settle}
use Rattle.ev_types.specs.declared.events.Line.{Line}
use Rattle.ev_model.specs.Runs.{is_batched}
use Rattle.ev_model.specs.Operations.{Operation, line_operation, step_behind, last_settle, actor_same, actor_decides, is_automatic, is_settle, is_full_at, is_since_settle, line_operations, all_operations}
use Rattle.ev_model_laws.proofs.OperationLists.{filter_filter, filter_none, filter_alike}
use Rattle.ev_model_laws.proofs.RisingOperations.{operations_rise}
use Rattle.ev_model_laws.proofs.ScriptOperations.{of_worker}
use Rattle.ev_actors.specs.Passes.{ReplaysInOnePass, waiting_of, waiting_without, joined_by, is_filled_by, automatic_behind, put_out, waiting_behind, put_out_last, one_pass}
use Rattle.ev_actors.proofs.SinceLemmas.{run_same, run_joined, run_ended}
use Rattle.ev_actors.proofs.OrderLemmas.{joins_of, ends_of, since, stream, ordered}
use Rattle.ev_actors.proofs.FullLemmas.{line_joins, line_ends, lines_since, LinesRise, lines_rise, since_is}

-- who makes an event

settles_worker : (workers : ℕ) (actor : Actor) (event : Event) → MayMake workers actor event → is_settle event ≡ true → IsWorkerOf workers actor
settles_worker workers actor Connect may h = cc
settles_worker workers actor Disconnect may h = cc
settles_worker workers actor (Response response) may h = cc
settles_worker workers actor (health cluster host healthy) may h = cc
settles_worker workers actor (FetchTimeout timeout) may h = cc
settles_worker workers actor (DrainTimeout listener) may h = cc
settles_worker workers actor (TtlExpired kind name) may h = cc
settles_worker workers actor Publish may h = cc
settles_worker workers actor Reap may h = cc
settles_worker workers actor (Accept ask) may h = may
settles_worker workers actor (Close connection) may h = may
settles_worker workers actor Settle may h = may

stream_side : (actor : Actor) → IsStream actor → IsMainSide actor
stream_side Stream is = tt
stream_side Health is = absurd is
stream_side Timer is = absurd is
stream_side Main is = absurd is
stream_side (Worker worker) is = absurd is

health_side : (actor : Actor) → IsHealth actor → IsMainSide actor
health_side Stream is = absurd is
health_side Health is = tt
health_side Timer is = absurd is
health_side Main is = absurd is
health_side (Worker worker) is = absurd is

timer_side : (actor : Actor) → IsTimer actor → IsMainSide actor
timer_side Stream is = absurd is
timer_side Health is = absurd is
timer_side Timer is = tt
timer_side Main is = absurd is
timer_side (Worker worker) is = absurd is

-- what is no accept, close or settle is made on the main side
pub main_makes : (workers : ℕ) (actor : Actor) (event : Event) → MayMake workers actor event → is_batched event ≡ false → is_settle event ≡ false
    → IsMainSide actor
main_makes workers actor Connect may one other = stream_side actor may
main_makes workers actor Disconnect may one other = stream_side actor may
main_makes workers actor (Response response) may one other = stream_side actor may
main_makes workers actor (health cluster host healthy) may one other = health_side actor may
main_makes workers actor (FetchTimeout timeout) may one other = timer_side actor may
main_makes workers actor (DrainTimeout listener) may one other = timer_side actor may
main_makes workers actor (TtlExpired kind name) may one other = timer_side actor may
main_makes workers actor Publish may one other = may
main_makes workers actor Reap may one other = may
main_makes workers actor (Accept ask) may one other = cc
main_makes workers actor (Close connection) may one other = cc
main_makes workers actor Settle may one other = cc

not_automatic : (workers : ℕ) (auto : Bool) (actor : Actor) → IsWorkerOf workers actor → (auto && is_automatic actor) ≡ false
not_automatic workers auto Stream is = absurd is
not_automatic workers auto Health is = absurd is
not_automatic workers auto Timer is = absurd is
not_automatic workers auto Main is = absurd is
not_automatic workers true (Worker worker) is = refl
not_automatic workers false (Worker worker) is = refl

worker_named : (workers : ℕ) (actor : Actor) → IsWorkerOf workers actor → (worker : ℕ) × (actor ≡ Worker worker)
worker_named workers Stream is = absurd is
worker_named workers Health is = absurd is
worker_named workers Timer is = absurd is
worker_named workers Main is = absurd is
worker_named workers (Worker worker) is = (worker, refl)

sides_apart : (workers : ℕ) (one other : Actor) → IsWorkerOf workers one → IsMainSide other → actor_same one other ≡ false
sides_apart workers Stream other is side = absurd is
sides_apart workers Health other is side = absurd is
sides_apart workers Timer other is side = absurd is
sides_apart workers Main other is side = absurd is
sides_apart workers (Worker worker) Stream is side = refl
sides_apart workers (Worker worker) Health is side = refl
sides_apart workers (Worker worker) Timer is side = refl
sides_apart workers (Worker worker) Main is side = refl
sides_apart workers (Worker worker) (Worker other) is side = absurd side

-- what waits

pub waiting_joined : (actor : Actor) (waiting : List Operation) (o : Operation) → actor_same o.actor actor ≡ true
    → waiting_of actor (waiting ++ o ∷ []) ≡ waiting_of actor waiting ++ o ∷ []
waiting_joined actor waiting o same =
    filter-append (λ (p : Operation). actor_same p.actor actor) waiting (o ∷ [])
    ∙ ap (λ b. waiting_of actor waiting ++ (if b then o ∷ [] else [])) same

pub waiting_other : (actor : Actor) (waiting : List Operation) (o : Operation) → actor_same o.actor actor ≡ false
    → waiting_of actor (waiting ++ o ∷ []) ≡ waiting_of actor waiting
waiting_other actor waiting o same =
    filter-append (λ (p : Operation). actor_same p.actor actor) waiting (o ∷ [])
    ∙ ap (λ b. waiting_of actor waiting ++ (if b then o ∷ [] else [])) same
    ∙ append-nil (waiting_of actor waiting)

not_and : (b : Bool) → (not b && b) ≡ false
not_and true = refl
not_and false = refl

-- nothing of an actor waits where its operations are taken out
pub waiting_gone : (one actor : Actor) (waiting : List Operation) → actor_same one actor ≡ true → waiting_of actor (waiting_without one waiting) ≡ []
waiting_gone one actor waiting same =
    filter_filter (λ (o : Operation). actor_same o.actor actor) (λ (o : Operation). not (actor_same o.actor one)) waiting
    ∙ filter_none (λ (o : Operation). not (actor_same o.actor one) && actor_same o.actor actor) waiting
    (λ o is. ap (λ a. not (actor_same o.actor a) && actor_same o.actor actor) ((actor_decides one actor).0 same) ∙ not_and (actor_same o.actor actor))

others_by : (o one actor : Actor) → actor_same one actor ≡ false → (b : Bool) → actor_same o actor ≡ b → (not (actor_same o one) && b) ≡ b
others_by o one actor apart true is =
    ap (λ a. not (actor_same a one) && true) ((actor_decides o actor).0 is)
    ∙ other (actor_same actor one) refl
  where
    other : (c : Bool) → actor_same actor one ≡ c → (not c && true) ≡ true
    other true same = absurd (both_ways (actor_same one actor) apart ((actor_decides one actor).1 (sym ((actor_decides actor one).0 same))))
    other false same = refl
others_by o one actor apart false is = none (actor_same o one)
  where
    none : (c : Bool) → (not c && false) ≡ false
    none true = refl
    none false = refl

-- and what waits of the others stays
pub waiting_stays : (one actor : Actor) (waiting : List Operation) → actor_same one actor ≡ false
    → waiting_of actor (waiting_without one waiting) ≡ waiting_of actor waiting
waiting_stays one actor waiting apart =
    filter_filter (λ (o : Operation). actor_same o.actor actor) (λ (o : Operation). not (actor_same o.actor one)) waiting
    ∙ filter_alike (λ (o : Operation). not (actor_same o.actor one) && actor_same o.actor actor) (λ (o : Operation). actor_same o.actor actor) waiting
    (λ o is. others_by o.actor one actor apart (actor_same o.actor actor) refl)

-- what waits after these lines, before which these operations come
record Keeps (front : List Line) (before waiting : List Operation) : Type 0 where
  waits : (actor : Actor) → waiting_of actor waiting ≡ since actor before
  counts : (worker : ℕ) → length (waiting_of (Worker worker) waiting) ≡ length (lines_since (Worker worker) front) % 256
  main : (actor : Actor) → IsMainSide actor → waiting_of actor waiting ≡ []

-- one more line: what goes out at it, and what waits after it
record Goes (script : ScriptParts) (front : List Line) (before waiting : List Operation) (line : Line) (rest : List Operation) : Type 0 where
  after : List Operation
  out : stream before (line_operations script line ++ rest) ≡ put_out script.auto waiting line ++ stream after rest
  keeps : Keeps (front ++ line ∷ []) after (waiting_behind waiting line)

-- tests of an operation
pub settle_joins_not : (event : Event) → is_batched event ≡ true → is_settle event ≡ false
settle_joins_not Connect h = refl
settle_joins_not Disconnect h = refl
settle_joins_not (Response response) h = refl
settle_joins_not (health cluster host healthy) h = refl
settle_joins_not (FetchTimeout timeout) h = refl
settle_joins_not (DrainTimeout listener) h = refl
settle_joins_not (TtlExpired kind name) h = refl
settle_joins_not Publish h = refl
settle_joins_not Reap h = refl
settle_joins_not (Accept ask) h = refl
settle_joins_not (Close connection) h = refl
settle_joins_not Settle h = cc

both : (a b : Bool) → a ≡ true → b ≡ true → (a && b) ≡ true
both a b one other = ap (λ c. c && b) one ∙ other

first_not : (a b : Bool) → a ≡ false → (a && b) ≡ false
first_not a b h = ap (λ c. c && b) h

second_not : (a b : Bool) → b ≡ false → (a && b) ≡ false
second_not true b h = h
second_not false b h = refl

-- an operation that neither joins nor ends leaves what waits
since_same : (actor : Actor) (before : List Operation) (o : Operation) → is_batched o.event ≡ false → is_settle o.event ≡ false
    → since actor (before ++ o ∷ []) ≡ since actor before
since_same actor before o one other =
    run_same (joins_of actor) (ends_of actor) before o
    (first_not (is_batched o.event) (actor_same o.actor actor) one)
    (first_not (is_settle o.event) (actor_same o.actor actor) other)

since_other : (actor : Actor) (before : List Operation) (o : Operation) → actor_same o.actor actor ≡ false
    → since actor (before ++ o ∷ []) ≡ since actor before
since_other actor before o apart =
    run_same (joins_of actor) (ends_of actor) before o
    (second_not (is_batched o.event) (actor_same o.actor actor) apart)
    (second_not (is_settle o.event) (actor_same o.actor actor) apart)

since_joined : (actor : Actor) (before : List Operation) (o : Operation) → is_batched o.event ≡ true → actor_same o.actor actor ≡ true
    → since actor (before ++ o ∷ []) ≡ since actor before ++ o ∷ []
since_joined actor before o batched same =
    run_joined (joins_of actor) (ends_of actor) before o
    (both (is_batched o.event) (actor_same o.actor actor) batched same)
    (first_not (is_settle o.event) (actor_same o.actor actor) (settle_joins_not o.event batched))

since_ended : (actor : Actor) (before : List Operation) (o : Operation) → is_batched o.event ≡ false → is_settle o.event ≡ true → actor_same o.actor actor ≡ true
    → since actor (before ++ o ∷ []) ≡ []
since_ended actor before o alone ends same =
    run_ended (joins_of actor) (ends_of actor) before o
    (first_not (is_batched o.event) (actor_same o.actor actor) alone)
    (both (is_settle o.event) (actor_same o.actor actor) ends same)

pub lines_same : (actor : Actor) (front : List Line) (line : Line) → is_batched line.event ≡ false → is_settle line.event ≡ false
    → lines_since actor (front ++ line ∷ []) ≡ lines_since actor front
lines_same actor front line one other =
    run_same (line_joins actor) (line_ends actor) front line
    (first_not (is_batched line.event) (actor_same line.actor actor) one)
    (first_not (is_settle line.event) (actor_same line.actor actor) other)

pub lines_other : (actor : Actor) (front : List Line) (line : Line) → actor_same line.actor actor ≡ false
    → lines_since actor (front ++ line ∷ []) ≡ lines_since actor front
lines_other actor front line apart =
    run_same (line_joins actor) (line_ends actor) front line
    (second_not (is_batched line.event) (actor_same line.actor actor) apart)
    (second_not (is_settle line.event) (actor_same line.actor actor) apart)

pub lines_joined : (actor : Actor) (front : List Line) (line : Line) → is_batched line.event ≡ true → actor_same line.actor actor ≡ true
    → lines_since actor (front ++ line ∷ []) ≡ lines_since actor front ++ line ∷ []
lines_joined actor front line batched same =
    run_joined (line_joins actor) (line_ends actor) front line
    (both (is_batched line.event) (actor_same line.actor actor) batched same)
    (first_not (is_settle line.event) (actor_same line.actor actor) (settle_joins_not line.event batched))

pub lines_ended : (actor : Actor) (front : List Line) (line : Line) → is_batched line.event ≡ false → is_settle line.event ≡ true → actor_same line.actor actor ≡ true
    → lines_since actor (front ++ line ∷ []) ≡ []
lines_ended actor front line alone ends same =
    run_ended (line_joins actor) (line_ends actor) front line
    (first_not (is_batched line.event) (actor_same line.actor actor) alone)
    (both (is_settle line.event) (actor_same line.actor actor) ends same)

-- the remainder of one more
pub more_full : (waits count : ℕ) → waits ≡ count % 256 → ((waits + 1) == 256) ≡ ((count + 1) % 256 == 0)
more_full waits count is = grind (arith, nat_tests)

pub more_counted : (waits count : ℕ) → waits ≡ count % 256 → ((waits + 1) == 256) ≡ false → waits + 1 ≡ (count + 1) % 256
more_counted waits count is few = grind (arith, nat_tests)

pub more_none : (waits count : ℕ) → waits ≡ count % 256 → ((waits + 1) == 256) ≡ true → 0 ≡ (count + 1) % 256
more_none waits count is full = grind (arith, nat_tests)

one_longer : {X : Type 0} (xs : List X) (x : X) → length (xs ++ x ∷ []) ≡ length xs + 1
one_longer xs x = length-append xs (x ∷ [])

-- one operation of a stream that goes out
streamed : (before rest : List Operation) (o : Operation) → is_batched o.event ≡ false
    → stream before (o ∷ rest) ≡ (since o.actor before ++ o ∷ []) ++ stream (before ++ o ∷ []) rest
streamed before rest o alone = ap (λ b. (if b then [] else since o.actor before ++ o ∷ []) ++ stream (before ++ o ∷ []) rest) alone

-- one that waits
held_back : (before rest : List Operation) (o : Operation) → is_batched o.event ≡ true → stream before (o ∷ rest) ≡ stream (before ++ o ∷ []) rest
held_back before rest o batched = ap (λ b. (if b then [] else since o.actor before ++ o ∷ []) ++ stream (before ++ o ∷ []) rest) batched

module _ (script : ScriptParts) (front : List Line) (before waiting : List Operation) (line : Line) (rest : List Operation)
    (keeps : Keeps front before waiting) (may : MayMake script.workers line.actor line.event) where
  abbrev flushed : List Operation
  flushed = (before ++ line_operation line ∷ []) ++ step_behind line 1 Settle ∷ []

  abbrev published : List Operation
  published = (before ++ line_operation line ∷ []) ++ step_behind line 1 Publish ∷ []

  -- an accept or close joins what waits
  module _ (batched : is_batched line.event ≡ true) where
    of_one : IsWorkerOf script.workers line.actor
    of_one = of_worker script.workers line.actor line.event may batched

    joined_waits : (actor : Actor) (b : Bool) → actor_same line.actor actor ≡ b
        → waiting_of actor (joined_by line waiting) ≡ since actor (before ++ line_operation line ∷ [])
    joined_waits actor true same =
        waiting_joined actor waiting (line_operation line) same
        ∙ ap (λ os. os ++ line_operation line ∷ []) (keeps.waits actor)
        ∙ sym (since_joined actor before (line_operation line) batched same)
    joined_waits actor false same =
        waiting_other actor waiting (line_operation line) same
        ∙ keeps.waits actor
        ∙ sym (since_other actor before (line_operation line) same)

    filled_is : is_filled_by line waiting ≡ ((length (waiting_of line.actor waiting) + 1) == 256)
    filled_is =
        ap (λ os. length os == 256) (waiting_joined line.actor waiting (line_operation line) ((actor_decides line.actor line.actor).1 refl))
        ∙ ap (λ n. n == 256) (one_longer (waiting_of line.actor waiting) (line_operation line))

    -- where the batch isn't full
    module _ (few : is_filled_by line waiting ≡ false) where
      joined_counts : (worker : ℕ) (b : Bool) → actor_same line.actor (Worker worker) ≡ b
          → length (waiting_of (Worker worker) (joined_by line waiting)) ≡ length (lines_since (Worker worker) (front ++ line ∷ [])) % 256
      joined_counts worker true same =
          let few_of : ((length (waiting_of (Worker worker) waiting) + 1) == 256) ≡ false =
          ap (λ a. (length (waiting_of a waiting) + 1) == 256) (sym ((actor_decides line.actor (Worker worker)).0 same)) ∙ sym filled_is ∙ few in
          ap length (waiting_joined (Worker worker) waiting (line_operation line) same)
          ∙ one_longer (waiting_of (Worker worker) waiting) (line_operation line)
          ∙ more_counted (length (waiting_of (Worker worker) waiting)) (length (lines_since (Worker worker) front)) (keeps.counts worker) few_of
          ∙ ap (λ n. n % 256) (sym (one_longer (lines_since (Worker worker) front) line))
          ∙ ap (λ ls. length ls % 256) (sym (lines_joined (Worker worker) front line batched same))
      joined_counts worker false same =
          ap length (waiting_other (Worker worker) waiting (line_operation line) same)
          ∙ keeps.counts worker
          ∙ ap (λ ls. length ls % 256) (sym (lines_other (Worker worker) front line same))

      joined_main : (actor : Actor) → IsMainSide actor → waiting_of actor (joined_by line waiting) ≡ []
      joined_main actor side =
          waiting_other actor waiting (line_operation line) (sides_apart script.workers line.actor actor of_one side) ∙ keeps.main actor side

      joined_keeps : Keeps (front ++ line ∷ []) (before ++ line_operation line ∷ []) (joined_by line waiting)
      joined_keeps = record {
        waits = λ actor. joined_waits actor (actor_same line.actor actor) refl;
        counts = λ worker. joined_counts worker (actor_same line.actor (Worker worker)) refl;
        main = joined_main;
      }

    -- where it is full
    module _ (full : is_filled_by line waiting ≡ true) where
      flushed_waits : (actor : Actor) (b : Bool) → actor_same line.actor actor ≡ b → waiting_of actor (waiting_without line.actor waiting) ≡ since actor flushed
      flushed_waits actor true same =
          waiting_gone line.actor actor waiting same
          ∙ sym (since_ended actor (before ++ line_operation line ∷ []) (step_behind line 1 Settle) refl refl same)
      flushed_waits actor false same =
          waiting_stays line.actor actor waiting same
          ∙ keeps.waits actor
          ∙ sym (since_other actor before (line_operation line) same)
          ∙ sym (since_other actor (before ++ line_operation line ∷ []) (step_behind line 1 Settle) same)

      flushed_counts : (worker : ℕ) (b : Bool) → actor_same line.actor (Worker worker) ≡ b
          → length (waiting_of (Worker worker) (waiting_without line.actor waiting)) ≡ length (lines_since (Worker worker) (front ++ line ∷ [])) % 256
      flushed_counts worker true same =
          let full_of : ((length (waiting_of (Worker worker) waiting) + 1) == 256) ≡ true =
          ap (λ a. (length (waiting_of a waiting) + 1) == 256) (sym ((actor_decides line.actor (Worker worker)).0 same)) ∙ sym filled_is ∙ full in
          ap length (waiting_gone line.actor (Worker worker) waiting same)
          ∙ more_none (length (waiting_of (Worker worker) waiting)) (length (lines_since (Worker worker) front)) (keeps.counts worker) full_of
          ∙ ap (λ n. n % 256) (sym (one_longer (lines_since (Worker worker) front) line))
          ∙ ap (λ ls. length ls % 256) (sym (lines_joined (Worker worker) front line batched same))
      flushed_counts worker false same =
          ap length (waiting_stays line.actor (Worker worker) waiting same)
          ∙ keeps.counts worker
          ∙ ap (λ ls. length ls % 256) (sym (lines_other (Worker worker) front line same))

      flushed_keeps : Keeps (front ++ line ∷ []) flushed (waiting_without line.actor waiting)
      flushed_keeps = record {
        waits = λ actor. flushed_waits actor (actor_same line.actor actor) refl;
        counts = λ worker. flushed_counts worker (actor_same line.actor (Worker worker)) refl;
        main = λ actor side. waiting_stays line.actor actor waiting (sides_apart script.workers line.actor actor of_one side) ∙ keeps.main actor side;
      }

    -- the script's lines force a settle where the batch is full
    module _ (behind : List Line) (rise : LinesRise script.lines) (all : front ++ line ∷ behind ≡ script.lines) where
      counted_by : (named : (worker : ℕ) × (line.actor ≡ Worker worker))
          → length (waiting_of line.actor waiting) ≡ length (lines_since line.actor front) % 256
      counted_by named =
          subst (λ a. length (waiting_of a waiting) ≡ length (lines_since a front) % 256) (sym named.1) (keeps.counts named.0)

      full_is : is_full_at script.lines line ≡ is_filled_by line waiting
      full_is =
          ap (λ b. b && (length (filter (is_since_settle script.lines line) script.lines) % 256 == 0)) batched
          ∙ ap (λ ls. length ls % 256 == 0) (since_is script.lines front behind line rise all)
          ∙ ap (λ ls. length ls % 256 == 0) (lines_joined line.actor front line batched ((actor_decides line.actor line.actor).1 refl))
          ∙ ap (λ n. n % 256 == 0) (one_longer (lines_since line.actor front) line)
          ∙ sym (more_full (length (waiting_of line.actor waiting)) (length (lines_since line.actor front)) (counted_by (worker_named script.workers line.actor of_one)))
          ∙ sym filled_is

      operations_are : (b : Bool) → is_filled_by line waiting ≡ b
          → line_operations script line ≡ line_operation line ∷ (if b then step_behind line 1 Settle ∷ [] else [])
      operations_are b is =
          ap (λ c. line_operation line ∷ (if c then step_behind line 1 Publish ∷ step_behind line 2 Reap ∷ [] else (if is_full_at script.lines line then step_behind line 1 Settle ∷ [] else [])))
          (not_automatic script.workers script.auto line.actor of_one)
          ∙ ap (λ c. line_operation line ∷ (if c then step_behind line 1 Settle ∷ [] else [])) (full_is ∙ is)

      put_is : (b : Bool) → is_filled_by line waiting ≡ b
          → put_out script.auto waiting line ≡ (if b then waiting_of line.actor (joined_by line waiting) ++ step_behind line 1 Settle ∷ [] else [])
      put_is b is =
          ap (λ c. if c then (if is_filled_by line waiting then waiting_of line.actor (joined_by line waiting) ++ step_behind line 1 Settle ∷ [] else [])
          else (if is_settle line.event then waiting_of line.actor waiting ++ line_operation line ∷ [] else line_operation line ∷ automatic_behind script.auto line)) batched
          ∙ ap (λ c. if c then waiting_of line.actor (joined_by line waiting) ++ step_behind line 1 Settle ∷ [] else []) is

      behind_is : (b : Bool) → is_filled_by line waiting ≡ b
          → waiting_behind waiting line ≡ (if b then waiting_without line.actor waiting else joined_by line waiting)
      behind_is b is =
          ap (λ c. if c then (if is_filled_by line waiting then waiting_without line.actor waiting else joined_by line waiting)
          else (if is_settle line.event then waiting_without line.actor waiting else waiting)) batched
          ∙ ap (λ c. if c then waiting_without line.actor waiting else joined_by line waiting) is

      batched_by : (b : Bool) → is_filled_by line waiting ≡ b → Goes script front before waiting line rest
      batched_by true is = record {
        after = flushed;
        out =
            ap (λ os. stream before (os ++ rest)) (operations_are true is)
            ∙ held_back before (step_behind line 1 Settle ∷ rest) (line_operation line) batched
            ∙ streamed (before ++ line_operation line ∷ []) rest (step_behind line 1 Settle) refl
            ∙ ap (λ os. (os ++ step_behind line 1 Settle ∷ []) ++ stream flushed rest) (sym (joined_waits line.actor true ((actor_decides line.actor line.actor).1 refl)))
            ∙ ap (λ os. os ++ stream flushed rest) (sym (put_is true is));
        keeps = subst (Keeps (front ++ line ∷ []) flushed) (sym (behind_is true is)) (flushed_keeps is);
      }
      batched_by false is = record {
        after = before ++ line_operation line ∷ [];
        out =
            ap (λ os. stream before (os ++ rest)) (operations_are false is)
            ∙ held_back before rest (line_operation line) batched
            ∙ ap (λ os. os ++ stream (before ++ line_operation line ∷ []) rest) (sym (put_is false is));
        keeps = subst (Keeps (front ++ line ∷ []) (before ++ line_operation line ∷ [])) (sym (behind_is false is)) (joined_keeps is);
      }

  -- a settle takes what waits
  module _ (alone : is_batched line.event ≡ false) (ends : is_settle line.event ≡ true) where
    by_one : IsWorkerOf script.workers line.actor
    by_one = settles_worker script.workers line.actor line.event may ends

    settled_waits : (actor : Actor) (b : Bool) → actor_same line.actor actor ≡ b
        → waiting_of actor (waiting_without line.actor waiting) ≡ since actor (before ++ line_operation line ∷ [])
    settled_waits actor true same =
        waiting_gone line.actor actor waiting same ∙ sym (since_ended actor before (line_operation line) alone ends same)
    settled_waits actor false same =
        waiting_stays line.actor actor waiting same ∙ keeps.waits actor ∙ sym (since_other actor before (line_operation line) same)

    settled_counts : (worker : ℕ) (b : Bool) → actor_same line.actor (Worker worker) ≡ b
        → length (waiting_of (Worker worker) (waiting_without line.actor waiting)) ≡ length (lines_since (Worker worker) (front ++ line ∷ [])) % 256
    settled_counts worker true same =
        ap length (waiting_gone line.actor (Worker worker) waiting same)
        ∙ ap (λ ls. length ls % 256) (sym (lines_ended (Worker worker) front line alone ends same))
    settled_counts worker false same =
        ap length (waiting_stays line.actor (Worker worker) waiting same)
        ∙ keeps.counts worker
        ∙ ap (λ ls. length ls % 256) (sym (lines_other (Worker worker) front line same))

    settled_keeps : Keeps (front ++ line ∷ []) (before ++ line_operation line ∷ []) (waiting_without line.actor waiting)
    settled_keeps = record {
      waits = λ actor. settled_waits actor (actor_same line.actor actor) refl;
      counts = λ worker. settled_counts worker (actor_same line.actor (Worker worker)) refl;
      main = λ actor side. waiting_stays line.actor actor waiting (sides_apart script.workers line.actor actor by_one side) ∙ keeps.main actor side;
    }

    settle_goes : Goes script front before waiting line rest
    settle_goes = record {
      after = before ++ line_operation line ∷ [];
      out =
          ap (λ os. stream before (os ++ rest))
          (ap (λ c. line_operation line ∷ (if c then step_behind line 1 Publish ∷ step_behind line 2 Reap ∷ [] else (if is_full_at script.lines line then step_behind line 1 Settle ∷ [] else [])))
          (not_automatic script.workers script.auto line.actor by_one)
          ∙ ap (λ c. line_operation line ∷ (if c then step_behind line 1 Settle ∷ [] else [])) (first_not (is_batched line.event) _ alone))
          ∙ streamed before rest (line_operation line) alone
          ∙ ap (λ os. (os ++ line_operation line ∷ []) ++ stream (before ++ line_operation line ∷ []) rest) (sym (keeps.waits line.actor))
          ∙ ap (λ os. os ++ stream (before ++ line_operation line ∷ []) rest)
          (sym
          (ap (λ c. if c then (if is_filled_by line waiting then waiting_of line.actor (joined_by line waiting) ++ step_behind line 1 Settle ∷ [] else [])
          else (if is_settle line.event then waiting_of line.actor waiting ++ line_operation line ∷ [] else line_operation line ∷ automatic_behind script.auto line)) alone
          ∙ ap (λ c. if c then waiting_of line.actor waiting ++ line_operation line ∷ [] else line_operation line ∷ automatic_behind script.auto line) ends));
      keeps =
          subst (Keeps (front ++ line ∷ []) (before ++ line_operation line ∷ []))
          (sym
          (ap (λ c. if c then (if is_filled_by line waiting then waiting_without line.actor waiting else joined_by line waiting)
          else (if is_settle line.event then waiting_without line.actor waiting else waiting)) alone
          ∙ ap (λ c. if c then waiting_without line.actor waiting else waiting) ends))
          settled_keeps;
    }

  -- any other line goes out alone
  module _ (alone : is_batched line.event ≡ false) (goes_on : is_settle line.event ≡ false) where
    none_waits : since line.actor before ≡ []
    none_waits = sym (keeps.waits line.actor) ∙ keeps.main line.actor (main_makes script.workers line.actor line.event may alone goes_on)

    none_behind : since line.actor (before ++ line_operation line ∷ []) ≡ []
    none_behind = since_same line.actor before (line_operation line) alone goes_on ∙ none_waits

    kept_behind : (os : List Operation) → ((actor : Actor) → since actor os ≡ since actor before) → Keeps (front ++ line ∷ []) os (waiting_behind waiting line)
    kept_behind os same =
        subst (Keeps (front ++ line ∷ []) os)
        (sym
        (ap (λ c. if c then (if is_filled_by line waiting then waiting_without line.actor waiting else joined_by line waiting)
        else (if is_settle line.event then waiting_without line.actor waiting else waiting)) alone
        ∙ ap (λ c. if c then waiting_without line.actor waiting else waiting) goes_on))
        (record {
          waits = λ actor. keeps.waits actor ∙ sym (same actor);
          counts = λ worker. keeps.counts worker ∙ ap (λ ls. length ls % 256) (sym (lines_same (Worker worker) front line alone goes_on));
          main = keeps.main;
        })

    put_alone : (b : Bool) → (script.auto && is_automatic line.actor) ≡ b
        → put_out script.auto waiting line ≡ line_operation line ∷ (if b then step_behind line 1 Publish ∷ step_behind line 2 Reap ∷ [] else [])
    put_alone b is =
        ap (λ c. if c then (if is_filled_by line waiting then waiting_of line.actor (joined_by line waiting) ++ step_behind line 1 Settle ∷ [] else [])
        else (if is_settle line.event then waiting_of line.actor waiting ++ line_operation line ∷ [] else line_operation line ∷ automatic_behind script.auto line)) alone
        ∙ ap (λ c. if c then waiting_of line.actor waiting ++ line_operation line ∷ [] else line_operation line ∷ automatic_behind script.auto line) goes_on
        ∙ ap (λ c. line_operation line ∷ (if c then step_behind line 1 Publish ∷ step_behind line 2 Reap ∷ [] else [])) is

    first_out : (os : List Operation) → stream before (line_operation line ∷ os) ≡ line_operation line ∷ stream (before ++ line_operation line ∷ []) os
    first_out os =
        streamed before os (line_operation line) alone
        ∙ ap (λ us. (us ++ line_operation line ∷ []) ++ stream (before ++ line_operation line ∷ []) os) none_waits

    operations_alone : (b : Bool) → (script.auto && is_automatic line.actor) ≡ b
        → line_operations script line ≡ line_operation line ∷ (if b then step_behind line 1 Publish ∷ step_behind line 2 Reap ∷ [] else [])
    operations_alone b is =
        ap (λ c. line_operation line ∷ (if c then step_behind line 1 Publish ∷ step_behind line 2 Reap ∷ [] else (if is_full_at script.lines line then step_behind line 1 Settle ∷ [] else []))) is
        ∙ ap (λ c. line_operation line ∷ (if b then step_behind line 1 Publish ∷ step_behind line 2 Reap ∷ [] else (if c then step_behind line 1 Settle ∷ [] else [])))
        (first_not (is_batched line.event) _ alone)
        ∙ by b
      where
        by : (b : Bool)
            → (line_operation line ∷ (if b then step_behind line 1 Publish ∷ step_behind line 2 Reap ∷ [] else (if false then step_behind line 1 Settle ∷ [] else [])))
            ≡ (line_operation line ∷ (if b then step_behind line 1 Publish ∷ step_behind line 2 Reap ∷ [] else []))
        by true = refl
        by false = refl

    alone_by : (b : Bool) → (script.auto && is_automatic line.actor) ≡ b → Goes script front before waiting line rest
    alone_by true is = record {
      after = published ++ step_behind line 2 Reap ∷ [];
      out =
          ap (λ os. stream before (os ++ rest)) (operations_alone true is)
          ∙ first_out (step_behind line 1 Publish ∷ step_behind line 2 Reap ∷ rest)
          ∙ ap (λ os. line_operation line ∷ os)
          (streamed (before ++ line_operation line ∷ []) (step_behind line 2 Reap ∷ rest) (step_behind line 1 Publish) refl
          ∙ ap (λ us. (us ++ step_behind line 1 Publish ∷ []) ++ stream published (step_behind line 2 Reap ∷ rest)) none_behind
          ∙ ap (λ us. step_behind line 1 Publish ∷ us)
          (streamed published rest (step_behind line 2 Reap) refl
          ∙ ap (λ us. (us ++ step_behind line 2 Reap ∷ []) ++ stream (published ++ step_behind line 2 Reap ∷ []) rest)
          (since_same line.actor (before ++ line_operation line ∷ []) (step_behind line 1 Publish) refl refl ∙ none_behind)))
          ∙ ap (λ os. os ++ stream (published ++ step_behind line 2 Reap ∷ []) rest) (sym (put_alone true is));
      keeps =
          kept_behind (published ++ step_behind line 2 Reap ∷ [])
          (λ actor.
          since_same actor published (step_behind line 2 Reap) refl refl
          ∙ since_same actor (before ++ line_operation line ∷ []) (step_behind line 1 Publish) refl refl
          ∙ since_same actor before (line_operation line) alone goes_on);
    }
    alone_by false is = record {
      after = before ++ line_operation line ∷ [];
      out =
          ap (λ os. stream before (os ++ rest)) (operations_alone false is)
          ∙ first_out rest
          ∙ ap (λ os. os ++ stream (before ++ line_operation line ∷ []) rest) (sym (put_alone false is));
      keeps = kept_behind (before ++ line_operation line ∷ []) (λ actor. since_same actor before (line_operation line) alone goes_on);
    }

  -- this holds at each line
  module _ (behind : List Line) (rise : LinesRise script.lines) (all : front ++ line ∷ behind ≡ script.lines) where
    not_batched : (ends : Bool) → is_batched line.event ≡ false → is_settle line.event ≡ ends → Goes script front before waiting line rest
    not_batched true alone is = settle_goes alone is
    not_batched false alone is = alone_by alone is (script.auto && is_automatic line.actor) refl

    goes_by : (b : Bool) → is_batched line.event ≡ b → Goes script front before waiting line rest
    goes_by true is = batched_by is behind rise all (is_filled_by line waiting) refl
    goes_by false is = not_batched (is_settle line.event) is refl

    goes : Goes script front before waiting line rest
    goes = goes_by (is_batched line.event) refl

-- after the last line each worker settles
last_are : (script : ScriptParts) (waiting before : List Operation) (start n : ℕ)
    → ((worker : ℕ) → start ≤ worker → waiting_of (Worker worker) waiting ≡ since (Worker worker) before)
    → stream before (map (last_settle script) (range_with_len start n)) ≡ flat_map (put_out_last script waiting) (range_with_len start n)
last_are script waiting before start zero waits = refl
last_are script waiting before start (suc n) waits =
    ap (λ os. (os ++ last_settle script start ∷ []) ++ stream (before ++ last_settle script start ∷ []) (map (last_settle script) (range_with_len (start + 1) n)))
    (sym (waits start (omega arith)))
    ∙ ap (λ os. put_out_last script waiting start ++ os)
    (last_are script waiting (before ++ last_settle script start ∷ []) (start + 1) n
    (λ worker least.
    waits worker (omega arith)
    ∙ sym (since_other (Worker worker) before (last_settle script start) (differs start worker least))))
  where
    differs : (one other : ℕ) → one + 1 ≤ other → (one == other) ≡ false
    differs one other less = grind (arith, nat_tests)

passes : (script : ScriptParts) (front behind : List Line) (before waiting : List Operation) → LinesRise script.lines → front ++ behind ≡ script.lines
    → ByRecursion (λ (line : Line). MayMake script.workers line.actor line.event) behind → Keeps front before waiting
    → one_pass script waiting behind
    ≡ stream before (flat_map (line_operations script) behind ++ map (last_settle script) (range_with_len 0 script.workers))
passes script front [] before waiting rise all may keeps =
    sym (last_are script waiting before 0 script.workers (λ worker least. keeps.waits (Worker worker)))
passes script front (line ∷ behind) before waiting rise all may keeps =
    let rest : List Operation = flat_map (line_operations script) behind ++ map (last_settle script) (range_with_len 0 script.workers) in
    let g : Goes script front before waiting line rest = goes script front before waiting line rest keeps may.0 behind rise all in
    ap (λ os. put_out script.auto waiting line ++ os)
    (passes script (front ++ line ∷ []) behind g.after (waiting_behind waiting line) rise (append_assoc front (line ∷ []) behind ∙ all) may.1 g.keeps)
    ∙ sym g.out
    ∙ ap (stream before)
    (sym (append_assoc (line_operations script line) (flat_map (line_operations script) behind) (map (last_settle script) (range_with_len 0 script.workers))))

pub in_one_pass : ReplaysInOnePass
in_one_pass script kept =
    passes script [] script.lines [] [] (lines_rise script.lines kept.rising) refl
    (recursion_from_All (λ (line : Line). MayMake script.workers line.actor line.event) script.lines kept.allowed)
    (record {
      waits = λ actor. refl;
      counts = λ worker. refl;
      main = λ actor side. refl;
    })
    ∙ sym (ordered (all_operations script) [] (all_operations script) (λ actor. operations_rise script actor kept) refl)
