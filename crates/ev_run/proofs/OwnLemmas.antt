-- The operations of an actor: each is its own, their resources are those of the script,
-- and no more come together than a batch may have.
use Rattle.std.proofs.Common.{◌≡◌, ◌≤◌, ◌<◌, ℕ, zero, suc, ◌+◌, ◌==◌, ◌&&◌, Bool, true, false, if◌then◌else◌, nat_lt, List, [], ◌∷◌, ◌++◌, Option, None, Some, map, filter, length, get_or, slice_get, refl, ap, sym, ◌∙◌, subst, append_assoc, arith}
use Rattle.std.specs.List.{AllByRecursion as ByRecursion, flat_map, range_with_len}
use Rattle.std.proofs.lemmas.Bool.Decides.{nat_tests}
use Rattle.std.proofs.lemmas.List.{map-append, take_all}
use Rattle.std.proofs.lemmas.List.Elements.{recursion_from_All}
use Rattle.std.proofs.lemmas.List.Sums.{sum_by-cons}
use Rattle.std.proofs.lemmas.Option.{slice_get-get_or}
use Rattle.std.specs.Cmp.{first_so}
use Rattle.std.proofs.Math.Bool.{and-false}
use Rattle.ev_types.specs.Events.{MayMake}
use Rattle.ev_types.specs.Scripts.{IsScript, ScriptParts, items_in, items_of}
use Rattle.ev_types.specs.declared.events.Actor.{Actor}
use Rattle.ev_types.specs.declared.events.Actor.TheVariants.{Worker}
use Rattle.ev_types.specs.declared.events.Event.TheVariants.{Publish as publish, Reap as reap, Settle as settle}
use Rattle.ev_types.specs.declared.events.Line.{Line}
use Rattle.ev_types.specs.declared.limits.TheConstants.{ITEM_LIMIT}
use Rattle.ev_model.specs.Runs.{is_batched}
use Rattle.ev_model.specs.Operations.{Operation, actor_decides, actor_same, all_operations, followers, is_automatic, is_full_at, is_settle, last_settle, line_operation, line_operations, operations_of, step_behind}
use Rattle.ev_model_laws.proofs.OperationLists.{IsIn, at_in, each_in, in_filter}
use Rattle.ev_model_laws.proofs.ScriptOperations.{IsAllowed, all_allowed}
use Rattle.ev_operations.specs.Dues.{AreDue, at_line, dues_at, last_dues, makes_full, operation_due, waiting_after}
use Rattle.ev_operations.specs.declared.due.Due.{Due}
use Rattle.ev_operations.specs.declared.due.Due.TheVariants.{Publish, Reap, Settle, LastSettle}
use Rattle.ev_actors.proofs.LineLemmas.{worker_batches}
use Rattle.ev_operations.proofs.DueLemmas.{AreDueSoFar, all_due, none_due, other_due, own_due}
use Rattle.ev_run.specs.Left.{AreOwn, KeepToBatches, items_left, waiting_past}

-- each is the actor's, and one that it may make
pub all_own : (script : ScriptParts) (actor : Actor) → IsScript script → AreOwn script.workers actor (operations_of script actor)
all_own script actor kept =
    each_in (λ (o : Operation). (o.actor ≡ actor) × MayMake script.workers o.actor o.event) (operations_of script actor)
    (λ o there.
    let parts : IsIn o (all_operations script) × (actor_same o.actor actor ≡ true) =
    in_filter (λ (p : Operation). actor_same p.actor actor) o (all_operations script) there in (
      (actor_decides o.actor actor).0 parts.1,
      at_in (IsAllowed script.workers) o (all_operations script) (recursion_from_All (IsAllowed script.workers) (all_operations script) (all_allowed script kept)) parts.0,
    ))

-- their resources
items_append : (os more : List Operation) → items_left (os ++ more) ≡ items_left os + items_left more
items_append [] more = omega arith
items_append (o ∷ os) more =
    let rest : items_left (os ++ more) ≡ items_left os + items_left more = items_append os more in
    omega arith

items_kept : (actor : Actor) (os : List Operation) → items_left (filter (λ (o : Operation). actor_same o.actor actor) os) ≤ items_left os
items_kept actor [] = omega arith
items_kept actor (o ∷ os) = by (actor_same o.actor actor) (items_kept actor os)
  where
    by : (b : Bool) → items_left (filter (λ (p : Operation). actor_same p.actor actor) os) ≤ items_left os
        → items_left (if b then o ∷ filter (λ (p : Operation). actor_same p.actor actor) os else filter (λ (p : Operation). actor_same p.actor actor) os)
        ≤ items_in o.event + items_left os
    by true less = omega arith
    by false less = omega arith

items_behind : (line : Line) (automatic full : Bool)
    → items_left (if automatic then step_behind line 1 publish ∷ step_behind line 2 reap ∷ [] else (if full then step_behind line 1 settle ∷ [] else [])) ≡ 0
items_behind line true full = refl
items_behind line false true = refl
items_behind line false false = refl

items_lines : (script : ScriptParts) (lines : List Line) → items_left (flat_map (line_operations script) lines) ≡ items_of lines
items_lines script [] = refl
items_lines script (line ∷ lines) =
    let behind : items_left (followers script line) ≡ 0 = items_behind line (script.auto && is_automatic line.actor) (is_full_at script.lines line) in
    let rest : items_left (flat_map (line_operations script) lines) ≡ items_of lines = items_lines script lines in
    let here : items_left (line_operations script line ++ flat_map (line_operations script) lines)
    ≡ items_left (line_operations script line) + items_left (flat_map (line_operations script) lines) =
    items_append (line_operations script line) (flat_map (line_operations script) lines) in
    let all : items_of (line ∷ lines) ≡ items_in line.event + items_of lines = sum_by-cons (λ (l : Line). items_in l.event) line lines in
    here ∙ (omega arith) ∙ sym all

items_settles : (script : ScriptParts) (start n : ℕ) → items_left (map (last_settle script) (range_with_len start n)) ≡ 0
items_settles script start zero = refl
items_settles script start (suc n) = let rest : items_left (map (last_settle script) (range_with_len (start + 1) n)) ≡ 0 = items_settles script (start + 1) n in omega arith

pub few_items : (script : ScriptParts) (actor : Actor) → IsScript script → 0 + items_left (operations_of script actor) < 4294967296
few_items script actor kept =
    let less : items_left (operations_of script actor) ≤ items_left (all_operations script) = items_kept actor (all_operations script) in
    let both : items_left (all_operations script) ≡ items_left (flat_map (line_operations script) script.lines) + items_left (map (last_settle script) (range_with_len 0 script.workers)) =
    items_append (flat_map (line_operations script) script.lines) (map (last_settle script) (range_with_len 0 script.workers)) in
    let lines : items_left (flat_map (line_operations script) script.lines) ≡ items_of script.lines = items_lines script script.lines in
    let settles : items_left (map (last_settle script) (range_with_len 0 script.workers)) ≡ 0 = items_settles script 0 script.workers in
    few (items_of script.lines) ITEM_LIMIT (items_left (operations_of script actor)) (omega arith) kept.few_items (omega arith)
  where
    few : (all limit own : ℕ) → own ≤ all → all < limit → limit ≤ 4294967296 → 0 + own < 4294967296
    few all limit own less below small = omega arith

-- the same of operations that are given by places of lines
abbrev KeepTo : ℕ → List (Option Operation) → Type 0
KeepTo waiting [] = waiting ≡ 0
KeepTo waiting (None ∷ os) = ⊥
KeepTo waiting (Some o ∷ os) = (is_batched o.event ≡ true → waiting < 256) × KeepTo (waiting_past waiting o) os

keep_some : (waiting : ℕ) (os : List Operation) → KeepTo waiting (map Some os) → KeepToBatches waiting os
keep_some waiting [] keeps = keeps
keep_some waiting (o ∷ os) keeps = (keeps.0, keep_some (waiting_past waiting o) os keeps.1)

-- after these, where this many wait, go on others that keep to batches
abbrev GoOn : ScriptParts → Actor → List Due → ℕ → Type 0
GoOn script actor dues waiting = (rest : List (Option Operation)) → KeepTo waiting rest → KeepTo 0 (map (operation_due script actor) dues ++ rest)

module _ (script : ScriptParts) (worker place waiting : ℕ) (line : Line) (there : slice_get script.lines place ≡ Some line) (few : waiting < 256) where
  abbrev due : Due → Option Operation
  due = operation_due script (Worker worker)

  line_goes : (rest : List (Option Operation)) (b full : Bool) → is_batched line.event ≡ b
      → KeepTo (if b then (if full then 0 else waiting + 1) else 0) rest → (full ≡ true → b ≡ true)
      → KeepTo waiting (Some (line_operation line) ∷ (map due (if full then Settle place ∷ [] else []) ++ rest))
  line_goes rest true true is keeps batched = (
    (λ h. few),
    subst (λ found. KeepTo (if is_batched line.event then waiting + 1 else 0) (at_line (λ (l : Line). step_behind l 1 settle) found ∷ rest)) (sym there) ((λ h. cc), keeps),
  )
  line_goes rest true false is keeps batched = ((λ h. few), subst (λ c. KeepTo (if c then waiting + 1 else 0) rest) (sym is) keeps)
  line_goes rest false true is keeps batched = absurd (let no : false ≡ true = batched refl in cc)
  line_goes rest false false is keeps batched = ((λ h. few), subst (λ c. KeepTo (if c then waiting + 1 else 0) rest) (sym is) keeps)

  -- what is due at a worker's line
  at_a_line : (rest : List (Option Operation)) → line.actor ≡ Worker worker → MayMake script.workers (Worker worker) line.event
      → KeepTo (waiting_after line waiting) rest → KeepTo waiting (map due (dues_at script.auto place line waiting) ++ rest)
  at_a_line rest own may keeps =
      subst (λ found. KeepTo waiting (at_line line_operation found ∷ (map due (if script.auto && is_automatic line.actor then Publish place ∷ Reap place ∷ []
      else (if makes_full line waiting then Settle place ∷ [] else [])) ++ rest))) (sym there)
      (subst (λ c. KeepTo waiting (Some (line_operation line) ∷ (map due (if c then Publish place ∷ Reap place ∷ [] else (if makes_full line waiting then Settle place ∷ [] else [])) ++ rest)))
      (sym (ap (λ a. script.auto && is_automatic a) own ∙ and-false script.auto))
      (line_goes rest (is_batched line.event) (makes_full line waiting) refl (by (is_batched line.event) refl keeps) (λ h. first_so (is_batched line.event) ((waiting + 1) == 256) h)))
    where
      by : (b : Bool) → is_batched line.event ≡ b → KeepTo (if b then (if makes_full line waiting then 0 else waiting + 1) else (if is_settle line.event then 0 else waiting)) rest
          → KeepTo (if b then (if makes_full line waiting then 0 else waiting + 1) else 0) rest
      by true is keeps = keeps
      by false is keeps = subst (λ c. KeepTo (if c then 0 else waiting) rest) (ends (is_settle line.event) refl) keeps
        where
          ends : (c : Bool) → is_settle line.event ≡ c → is_settle line.event ≡ true
          ends true h = h
          ends false h = let batched : is_batched line.event ≡ true = worker_batches script.workers worker line.event may h in cc

  few_after : waiting_after line waiting < 256
  few_after = by (is_batched line.event) (is_settle line.event) ((waiting + 1) == 256) refl
    where
      by : (b s full : Bool) → ((waiting + 1) == 256) ≡ full
          → (if b then (if b && full then 0 else waiting + 1) else (if s then 0 else waiting)) < 256
      by true s true is = omega arith
      by true s false is = less waiting few is
        where
          less : (n : ℕ) → n < 256 → ((n + 1) == 256) ≡ false → n + 1 < 256
          less n below apart = grind (arith, nat_tests)
      by false true full is = omega arith
      by false false full is = few

-- this many lines were gone through, and what is due of them keeps to batches
record IsGoneTo (script : ScriptParts) (worker place : ℕ) : Type 0 where
  dues : List Due
  waiting : ℕ
  so_far : AreDueSoFar script (Worker worker) dues waiting place
  goes : GoOn script (Worker worker) dues waiting

module _ (script : ScriptParts) (kept : IsScript script) (worker : ℕ) where
  one_more : (place : ℕ) (line : Line) → slice_get script.lines place ≡ Some line → MayMake script.workers line.actor line.event
      → IsGoneTo script worker place → (b : Bool) → actor_same line.actor (Worker worker) ≡ b → IsGoneTo script worker (place + 1)
  one_more place line there may gone true is =
      let own : line.actor ≡ Worker worker = (actor_decides line.actor (Worker worker)).0 is in
      record {
        dues = gone.dues ++ dues_at script.auto place line gone.waiting;
        waiting = waiting_after line gone.waiting;
        so_far =
            own_due script kept (Worker worker) gone.dues gone.waiting place line there gone.so_far is
            (few_after script worker place gone.waiting line there gone.so_far.few);
        goes = λ rest keeps.
            subst (KeepTo 0)
            (sym (ap (λ (os : List (Option Operation)). os ++ rest) (map-append (operation_due script (Worker worker)) gone.dues (dues_at script.auto place line gone.waiting))
            ∙ append_assoc (map (operation_due script (Worker worker)) gone.dues) (map (operation_due script (Worker worker)) (dues_at script.auto place line gone.waiting)) rest))
            (gone.goes (map (operation_due script (Worker worker)) (dues_at script.auto place line gone.waiting) ++ rest)
            (at_a_line script worker place gone.waiting line there gone.so_far.few rest own (subst (λ a. MayMake script.workers a line.event) own may) keeps));
      }
  one_more place line there may gone false is = record {
    dues = gone.dues;
    waiting = gone.waiting;
    so_far = other_due script kept (Worker worker) gone.dues gone.waiting place line there gone.so_far is;
    goes = gone.goes;
  }

  line_may : (lines : List Line) (place : ℕ) (d : Line) → ByRecursion (λ (line : Line). MayMake script.workers line.actor line.event) lines → place < length lines
      → MayMake script.workers (get_or lines place d).actor (get_or lines place d).event
  line_may [] place d all below = absurd (nothing place below)
    where
      nothing : (n : ℕ) → n < 0 → ⊥
      nothing n h = omega arith
  line_may (line ∷ lines) zero d all below = all.0
  line_may (line ∷ lines) (suc place) d all below = line_may lines place d all.1 (omega arith)

  gone_by : (lines : List Line) → script.lines ≡ lines → (place : ℕ) → place ≤ length lines → IsGoneTo script worker place
  gone_by lines are zero within = record { dues = []; waiting = 0; so_far = none_due script (Worker worker); goes = λ rest keeps. keeps }
  gone_by [] are (suc place) within = absurd (omega arith)
  gone_by (first ∷ lines) are (suc place) within =
      let all : List Line = first ∷ lines in
      let below : place < length all = omega arith in
      let line : Line = get_or all place first in
      let next : place + 1 ≡ suc place = omega arith in
      subst (IsGoneTo script worker) next
      (one_more place line (ap (λ (ls : List Line). slice_get ls place) are ∙ slice_get-get_or all place first below)
      (line_may all place first
      (subst (ByRecursion (λ (l : Line). MayMake script.workers l.actor l.event)) are (recursion_from_All (λ (l : Line). MayMake script.workers l.actor l.event) script.lines kept.allowed)) below)
      (gone_by all are place (omega arith)) (actor_same line.actor (Worker worker)) refl)

  -- a worker's operations keep to batches
  pub keep_to_batches : worker < script.workers → KeepToBatches 0 (operations_of script (Worker worker))
  keep_to_batches within =
      let gone : IsGoneTo script worker (length script.lines) = gone_by script.lines refl (length script.lines) (omega arith) in
      let due : AreDue script (Worker worker) (gone.dues ++ last_dues script.workers (Worker worker)) (operations_of script (Worker worker)) =
      all_due script (Worker worker) gone.dues gone.waiting (length script.lines) (take_all (length script.lines) script.lines (omega arith)) gone.so_far in
      keep_some 0 (operations_of script (Worker worker))
      (subst (KeepTo 0)
      (sym (map-append (operation_due script (Worker worker)) gone.dues (LastSettle ∷ []))
      ∙ ap (λ b. map (operation_due script (Worker worker)) (gone.dues ++ (if b then LastSettle ∷ [] else []))) (sym (is_below worker script.workers within))
      ∙ due)
      (gone.goes (Some (last_settle script worker) ∷ []) ((λ h. cc), refl)))
    where
      is_below : (a b : ℕ) → a < b → nat_lt a b ≡ true
      is_below a b h = grind (arith, nat_tests)
