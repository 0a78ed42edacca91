-- The operations of a script: each may be made by its actor, and those of each worker end with a settle.
use Rattle.std.proofs.Common.{◌≡◌, ◌≤◌, ◌<◌, ℕ, zero, suc, ◌+◌, ◌==◌, ◌⊎◌, inl, inr, Bool, true, false, ◌&&◌, if◌then◌else◌, List, [], ◌∷◌, ◌++◌, map, filter, refl, ap, ◌∙◌, subst, arith}
use Rattle.std.specs.List.{All, AllByRecursion as ByRecursion, flat_map, range_with_len}
use Rattle.std.specs.Cmp.{first_so, second_so}
use Rattle.std.proofs.lemmas.List.Concat.{flat_map-cons}
use Rattle.std.proofs.lemmas.List.Elements.{All-nil, All-cons, All-head, All-tail, All-append, All-same, filter-append}
use Rattle.ev_types.specs.Events.{MayMake, IsMainSide, IsWorkerOf}
use Rattle.ev_types.specs.Same.{numbers_decide}
use Rattle.ev_types.specs.Scripts.{ScriptParts, IsScript}
use Rattle.ev_types.specs.declared.events.Actor.{Actor}
use Rattle.ev_types.specs.declared.events.Actor.TheVariants.{Stream, Health, Timer, Main, Worker}
use Rattle.ev_types.specs.declared.events.Event.{Event}
use Rattle.ev_types.specs.declared.events.Event.TheVariants.{Connect, Disconnect, Response, Health as health, FetchTimeout, DrainTimeout, TtlExpired, Publish, Reap, Accept, Close, Settle}
use Rattle.ev_types.specs.declared.events.Line.{Line}
use Rattle.ev_model.specs.Runs.{is_batched}
use Rattle.ev_model.specs.Operations.{Operation, line_operation, step_behind, last_settle, actor_same, is_automatic, is_full_at, followers, line_operations, actor_decides, all_operations, operations_of}

-- the operations of an actor, in order
abbrev pub made_by : Actor → List Operation → List Operation
made_by actor os = filter (λ (o : Operation). actor_same o.actor actor) os

-- an operation by an actor and what follows, by that actor
pub made_first : (actor : Actor) (o : Operation) (os : List Operation) → o.actor ≡ actor → made_by actor (o ∷ os) ≡ o ∷ made_by actor os
made_first actor o os h = simp ((actor_decides o.actor actor).1 h) refl

-- the operation's actor may make its event
abbrev pub IsAllowed : ℕ → Operation → Type 0
IsAllowed workers o = MayMake workers o.actor o.event

main_side : (actor : Actor) → is_automatic actor ≡ true → IsMainSide actor
main_side Stream h = tt
main_side Health h = tt
main_side Timer h = tt
main_side Main h = tt
main_side (Worker worker) h = cc

-- an accept or a close is of a worker
pub of_worker : (workers : ℕ) (actor : Actor) (event : Event) → MayMake workers actor event → is_batched event ≡ true → IsWorkerOf workers actor
of_worker workers actor Connect may h = cc
of_worker workers actor Disconnect may h = cc
of_worker workers actor (Response response) may h = cc
of_worker workers actor (health cluster host healthy) may h = cc
of_worker workers actor (FetchTimeout timeout) may h = cc
of_worker workers actor (DrainTimeout listener) may h = cc
of_worker workers actor (TtlExpired kind name) may h = cc
of_worker workers actor Publish may h = cc
of_worker workers actor Reap may h = cc
of_worker workers actor (Accept ask) may h = may
of_worker workers actor (Close connection) may h = may
of_worker workers actor Settle may h = may

followers_by : (script : ScriptParts) (line : Line) (automatic full : Bool) → (script.auto && is_automatic line.actor) ≡ automatic
    → is_full_at script.lines line ≡ full → MayMake script.workers line.actor line.event
    → All (IsAllowed script.workers) (if automatic then step_behind line 1 Publish ∷ step_behind line 2 Reap ∷ [] else (if full then step_behind line 1 Settle ∷ [] else []))
followers_by script line true full h full_h may =
    let side : IsMainSide line.actor = main_side line.actor (second_so script.auto (is_automatic line.actor) h) in
    All-cons (IsAllowed script.workers) (step_behind line 1 Publish) (step_behind line 2 Reap ∷ []) side
    (All-cons (IsAllowed script.workers) (step_behind line 2 Reap) [] side (All-nil (IsAllowed script.workers)))
followers_by script line false true h full_h may =
    All-cons (IsAllowed script.workers) (step_behind line 1 Settle) []
    (of_worker script.workers line.actor line.event may (first_so (is_batched line.event) _ full_h))
    (All-nil (IsAllowed script.workers))
followers_by script line false false h full_h may = All-nil (IsAllowed script.workers)

lines_allowed : (script : ScriptParts) (lines : List Line) → All (λ (line : Line). MayMake script.workers line.actor line.event) lines
    → All (IsAllowed script.workers) (flat_map (line_operations script) lines)
lines_allowed script [] allowed = All-nil (IsAllowed script.workers)
lines_allowed script (line ∷ lines) allowed =
    let may : MayMake script.workers line.actor line.event =
    All-head (λ (line : Line). MayMake script.workers line.actor line.event) line lines allowed in
    All-same (IsAllowed script.workers) (flat_map (line_operations script) (line ∷ lines))
    (line_operations script line ++ flat_map (line_operations script) lines)
    (flat_map-cons (line_operations script) line lines)
    (All-append (IsAllowed script.workers) (line_operations script line) (flat_map (line_operations script) lines)
    (All-cons (IsAllowed script.workers) (line_operation line) (followers script line) may
    (followers_by script line (script.auto && is_automatic line.actor) (is_full_at script.lines line) refl refl may))
    (lines_allowed script lines (All-tail (λ (line : Line). MayMake script.workers line.actor line.event) line lines allowed)))

settles_allowed : (script : ScriptParts) (start n : ℕ) → start + n ≤ script.workers
    → All (IsAllowed script.workers) (map (last_settle script) (range_with_len start n))
settles_allowed script start zero few = All-nil (IsAllowed script.workers)
settles_allowed script start (suc n) few =
    All-cons (IsAllowed script.workers) (last_settle script start) (map (last_settle script) (range_with_len (start + 1) n)) (omega arith)
    (settles_allowed script (start + 1) n (omega arith))

-- each operation of a script is one of its actor's
pub all_allowed : (script : ScriptParts) → IsScript script → All (IsAllowed script.workers) (all_operations script)
all_allowed script kept =
    All-append (IsAllowed script.workers) (flat_map (line_operations script) script.lines)
    (map (last_settle script) (range_with_len 0 script.workers))
    (lines_allowed script script.lines kept.allowed) (settles_allowed script 0 script.workers (omega arith))

without_by : (P : Operation → Type 0) (actor : Actor) (o : Operation) (os : List Operation) (same : Bool) → actor_same o.actor actor ≡ same
    → ByRecursion P (made_by actor (o ∷ os)) → ByRecursion P (made_by actor os)
without_by P actor o os true h each = (simp h at each).1
without_by P actor o os false h each = simp h at each

-- what holds of each actor's operations holds of all
pub of_each : (P : Operation → Type 0) (os : List Operation) → ((actor : Actor) → ByRecursion P (made_by actor os)) → ByRecursion P os
of_each P [] each = tt
of_each P (o ∷ os) each = (
  (subst (ByRecursion P) (made_first o.actor o os refl) (each o.actor)).0,
  of_each P os (λ actor. without_by P actor o os (actor_same o.actor actor) refl (each actor)),
)

-- the last operation is an accept or a close; where there is none, as it is said
abbrev pub ends_batched : Bool → List Operation → Bool
ends_batched batched [] = batched
ends_batched batched (o ∷ os) = ends_batched (is_batched o.event) os

pub ends_append : (batched : Bool) (os others : List Operation) → ends_batched batched (os ++ others) ≡ ends_batched (ends_batched batched os) others
ends_append batched [] others = refl
ends_append batched (o ∷ os) others = ends_append (is_batched o.event) os others

settle_ends_by : (script : ScriptParts) (worker start n : ℕ) (same batched : Bool) → (start == worker) ≡ same
    → (batched ≡ true → (start ≤ worker) × (worker < start + suc n))
    → ((b : Bool) → (b ≡ true → (start + 1 ≤ worker) × (worker < start + 1 + n))
    → ends_batched b (made_by (Worker worker) (map (last_settle script) (range_with_len (start + 1) n))) ≡ false)
    → ends_batched batched (made_by (Worker worker) (map (last_settle script) (range_with_len start (suc n)))) ≡ false
settle_ends_by script worker start n true batched h among more = simp h (more false (λ e. cc))
settle_ends_by script worker start n false batched h among more =
    simp h
    (more batched
    (λ is.
    let other : start ≡ worker → ⊥ = λ e. let same : (start == worker) ≡ true = (numbers_decide start worker).1 e in cc in
    let least : start ≤ worker = (among is).0 in
    let most : worker < start + suc n = (among is).1 in
    (omega arith, omega arith)))

-- the last settles of these workers don't end with an accept or a close, where the worker is one of them
settles_end : (script : ScriptParts) (worker start n : ℕ) (batched : Bool) → (batched ≡ true → (start ≤ worker) × (worker < start + n))
    → ends_batched batched (made_by (Worker worker) (map (last_settle script) (range_with_len start n))) ≡ false
settles_end script worker start zero true among =
    let least : start ≤ worker = (among refl).0 in
    let most : worker < start + zero = (among refl).1 in
    absurd (omega arith)
settles_end script worker start zero false among = refl
settles_end script worker start (suc n) batched among =
    settle_ends_by script worker start n (start == worker) batched refl among (settles_end script worker (start + 1) n)

-- so the operations of each worker end with a settle
pub worker_settles : (script : ScriptParts) (actor : Actor) (batched : Bool) → IsWorkerOf script.workers actor
    → ends_batched batched (operations_of script actor) ≡ false
worker_settles script Stream batched is = absurd is
worker_settles script Health batched is = absurd is
worker_settles script Timer batched is = absurd is
worker_settles script Main batched is = absurd is
worker_settles script (Worker worker) batched is =
    let lines : List Operation = flat_map (line_operations script) script.lines in
    let settles : List Operation = map (last_settle script) (range_with_len 0 script.workers) in
    ap (ends_batched batched) (filter-append (λ (o : Operation). actor_same o.actor (Worker worker)) lines settles)
    ∙ ends_append batched (made_by (Worker worker) lines) (made_by (Worker worker) settles)
    ∙ settles_end script worker 0 script.workers (ends_batched batched (made_by (Worker worker) lines)) (λ h. (omega arith, omega arith))

-- the operations of one of the workers end with an accept or a close
record HasOpenBatch (workers : ℕ) (os : List Operation) : Type 0 where
  actor : Actor
  worker : IsWorkerOf workers actor
  ends : (batched : Bool) → ends_batched batched (made_by actor os) ≡ true

behind_by : (actor : Actor) (o : Operation) (os : List Operation) (same batched : Bool) → actor_same o.actor actor ≡ same
    → ((b : Bool) → ends_batched b (made_by actor os) ≡ true) → ends_batched batched (made_by actor (o ∷ os)) ≡ true
behind_by actor o os true batched h ends = simp h (ends (is_batched o.event))
behind_by actor o os false batched h ends = simp h (ends batched)

open_by : (workers : ℕ) (o : Operation) (os : List Operation) → IsAllowed workers o
    → ((os ≡ []) × (is_batched o.event ≡ true)) ⊎ HasOpenBatch workers os → HasOpenBatch workers (o ∷ os)
open_by workers o os may (inl last) =
    record {
      actor = o.actor;
      worker = of_worker workers o.actor o.event may last.1;
      ends = λ batched.
          ap (ends_batched batched) (ap (λ others. made_by o.actor (o ∷ others)) last.0 ∙ made_first o.actor o [] refl) ∙ last.1;
    }
open_by workers o os may (inr behind) =
    record {
      actor = behind.actor;
      worker = behind.worker;
      ends = λ batched. behind_by behind.actor o os (actor_same o.actor behind.actor) batched refl behind.ends;
    }

-- operations that end with an accept or a close are none, or leave a worker's batch open
open_batch : (workers : ℕ) (os : List Operation) (batched : Bool) → ByRecursion (IsAllowed workers) os → ends_batched batched os ≡ true
    → ((os ≡ []) × (batched ≡ true)) ⊎ HasOpenBatch workers os
open_batch workers [] batched allowed ends = inl (refl, ends)
open_batch workers (o ∷ os) batched allowed ends =
    inr (open_by workers o os allowed.0 (open_batch workers os (is_batched o.event) allowed.1 ends))

none_open : (workers : ℕ) (os : List Operation)
    → ((actor : Actor) → IsWorkerOf workers actor → ends_batched false (made_by actor os) ≡ true → ⊥)
    → ((os ≡ []) × (false ≡ true)) ⊎ HasOpenBatch workers os → ⊥
none_open workers os none (inl last) = cc
none_open workers os none (inr batch) = none batch.actor batch.worker (batch.ends false)

no_open_batch_by : (workers : ℕ) (os : List Operation) (ends : Bool) → ends_batched false os ≡ ends
    → ((actor : Actor) → IsWorkerOf workers actor → ends_batched false (made_by actor os) ≡ true → ⊥)
    → ByRecursion (IsAllowed workers) os → ends_batched false os ≡ false
no_open_batch_by workers os true h none allowed = absurd (none_open workers os none (open_batch workers os false allowed h))
no_open_batch_by workers os false h none allowed = h

-- operations that end with no worker's accept or close don't end with one
pub no_open_batch : (workers : ℕ) (os : List Operation)
    → ((actor : Actor) → IsWorkerOf workers actor → ends_batched false (made_by actor os) ≡ true → ⊥)
    → ByRecursion (IsAllowed workers) os → ends_batched false os ≡ false
no_open_batch workers os none allowed = no_open_batch_by workers os (ends_batched false os) refl none allowed
