-- A line of a worker, and a line of the main side: what goes out is in the journal, and what waits is in the batch.
use Rattle.std.proofs.Common.{◌≡◌, ℕ, ◌≤◌, ◌<◌, ◌+◌, ◌==◌, ◌&&◌, Bool, true, false, if◌then◌else◌, List, [], ◌∷◌, ◌++◌, map, length, refl, sym, ap, ◌∙◌, subst, append_assoc, append-nil, arith}
use Rattle.ev_types.specs.Events.{IsMainSide, IsWorkerOf, MayMake}
use Rattle.ev_types.specs.Scripts.{items_in}
use Rattle.ev_types.specs.declared.events.Actor.{Actor}
use Rattle.ev_types.specs.declared.events.Actor.TheVariants.{Stream, Health, Timer, Main, Worker}
use Rattle.ev_types.specs.declared.events.Event.{Event}
use Rattle.ev_types.specs.declared.events.Event.TheVariants.{Connect, Disconnect, Response, Health as health, FetchTimeout, DrainTimeout, TtlExpired, Publish, Reap, Accept, Close, Settle}
use Rattle.ev_types.specs.declared.events.Line.{Line}
use Rattle.ev_model.specs.Runs.{is_batched}
use Rattle.ev_model.specs.Operations.{Operation, actor_decides, entry_of, is_automatic, is_settle, line_operation, step_behind}
use Rattle.ev_worker.specs.Workers.{HasWorker, WorkerParts}
use Rattle.ev_actors.specs.Journals.{JournalParts, WorksIn, world_now}
use Rattle.ev_actors.specs.Passes.{automatic_behind, is_filled_by, joined_by, put_out, waiting_behind, waiting_of, waiting_without}
use Rattle.ev_actors.specs.Taken.{HasEntered, HasFollowed, HasGoneOut, HasJoined, HasSettled, HasWorked, operations_in}
use Rattle.ev_actors.specs.Working.{operations_made}
use Rattle.ev_actors.proofs.PassLemmas.{waiting_gone, waiting_joined}
use Rattle.ev_actors.proofs.WorldLemmas.{entries_leave}
use Rattle.ev_actors.proofs.SettleLemmas.{goes_on_by, goes_on_twice, operations_with, others_work, published_now, settle_draws, settled_operations, world_with}

-- a settle is a settle, and no accept or close
pub settle_is : (event : Event) → is_settle event ≡ true → event ≡ Settle
settle_is Connect h = cc
settle_is Disconnect h = cc
settle_is (Response response) h = cc
settle_is (health cluster host healthy) h = cc
settle_is (FetchTimeout timeout) h = cc
settle_is (DrainTimeout listener) h = cc
settle_is (TtlExpired kind name) h = cc
settle_is Publish h = cc
settle_is Reap h = cc
settle_is (Accept ask) h = cc
settle_is (Close connection) h = cc
settle_is Settle h = refl

no_worker : (workers : ℕ) (actor : Actor) → IsWorkerOf workers actor → IsMainSide actor → ⊥
no_worker workers Stream is side = is
no_worker workers Health is side = is
no_worker workers Timer is side = is
no_worker workers Main is side = is
no_worker workers (Worker worker) is side = side

-- what the main side makes is no accept, close or settle
pub main_alone : (workers : ℕ) (actor : Actor) (event : Event) → MayMake workers actor event → IsMainSide actor
    → (is_batched event ≡ false) × (is_settle event ≡ false)
main_alone workers actor Connect may side = (refl, refl)
main_alone workers actor Disconnect may side = (refl, refl)
main_alone workers actor (Response response) may side = (refl, refl)
main_alone workers actor (health cluster host healthy) may side = (refl, refl)
main_alone workers actor (FetchTimeout timeout) may side = (refl, refl)
main_alone workers actor (DrainTimeout listener) may side = (refl, refl)
main_alone workers actor (TtlExpired kind name) may side = (refl, refl)
main_alone workers actor Publish may side = (refl, refl)
main_alone workers actor Reap may side = (refl, refl)
main_alone workers actor (Accept ask) may side = absurd (no_worker workers actor may side)
main_alone workers actor (Close connection) may side = absurd (no_worker workers actor may side)
main_alone workers actor Settle may side = absurd (no_worker workers actor may side)

-- what a worker makes that is no settle is an accept or close
pub worker_batches : (workers worker : ℕ) (event : Event) → MayMake workers (Worker worker) event → is_settle event ≡ false → is_batched event ≡ true
worker_batches workers worker Connect may h = absurd may
worker_batches workers worker Disconnect may h = absurd may
worker_batches workers worker (Response response) may h = absurd may
worker_batches workers worker (health cluster host healthy) may h = absurd may
worker_batches workers worker (FetchTimeout timeout) may h = absurd may
worker_batches workers worker (DrainTimeout listener) may h = absurd may
worker_batches workers worker (TtlExpired kind name) may h = absurd may
worker_batches workers worker Publish may h = absurd may
worker_batches workers worker Reap may h = absurd may
worker_batches workers worker (Accept ask) may h = refl
worker_batches workers worker (Close connection) may h = refl
worker_batches workers worker Settle may h = cc

-- and what is no accept or close is a settle
pub worker_settles : (workers worker : ℕ) (event : Event) → MayMake workers (Worker worker) event → is_batched event ≡ false → is_settle event ≡ true
worker_settles workers worker Connect may h = absurd may
worker_settles workers worker Disconnect may h = absurd may
worker_settles workers worker (Response response) may h = absurd may
worker_settles workers worker (health cluster host healthy) may h = absurd may
worker_settles workers worker (FetchTimeout timeout) may h = absurd may
worker_settles workers worker (DrainTimeout listener) may h = absurd may
worker_settles workers worker (TtlExpired kind name) may h = absurd may
worker_settles workers worker Publish may h = absurd may
worker_settles workers worker Reap may h = absurd may
worker_settles workers worker (Accept ask) may h = cc
worker_settles workers worker (Close connection) may h = cc
worker_settles workers worker Settle may h = refl

-- and it is one of the workers
pub worker_below : (workers worker : ℕ) (event : Event) → MayMake workers (Worker worker) event → worker < workers
worker_below workers worker Connect may = absurd may
worker_below workers worker Disconnect may = absurd may
worker_below workers worker (Response response) may = absurd may
worker_below workers worker (health cluster host healthy) may = absurd may
worker_below workers worker (FetchTimeout timeout) may = absurd may
worker_below workers worker (DrainTimeout listener) may = absurd may
worker_below workers worker (TtlExpired kind name) may = absurd may
worker_below workers worker Publish may = absurd may
worker_below workers worker Reap may = absurd may
worker_below workers worker (Accept ask) may = may
worker_below workers worker (Close connection) may = may
worker_below workers worker Settle may = may

-- what goes out at a line, and what waits after it, by what the line is
pub put_batched : (auto : Bool) (waiting : List Operation) (line : Line) (full : Bool) → is_batched line.event ≡ true → is_filled_by line waiting ≡ full
    → put_out auto waiting line ≡ (if full then waiting_of line.actor (joined_by line waiting) ++ step_behind line 1 Settle ∷ [] else [])
put_batched auto waiting line full batched is =
    ap (λ c. if c then (if is_filled_by line waiting then waiting_of line.actor (joined_by line waiting) ++ step_behind line 1 Settle ∷ [] else [])
    else (if is_settle line.event then waiting_of line.actor waiting ++ line_operation line ∷ [] else line_operation line ∷ automatic_behind auto line)) batched
    ∙ ap (λ c. if c then waiting_of line.actor (joined_by line waiting) ++ step_behind line 1 Settle ∷ [] else []) is

pub behind_batched : (waiting : List Operation) (line : Line) (full : Bool) → is_batched line.event ≡ true → is_filled_by line waiting ≡ full
    → waiting_behind waiting line ≡ (if full then waiting_without line.actor waiting else joined_by line waiting)
behind_batched waiting line full batched is =
    ap (λ c. if c then (if is_filled_by line waiting then waiting_without line.actor waiting else joined_by line waiting)
    else (if is_settle line.event then waiting_without line.actor waiting else waiting)) batched
    ∙ ap (λ c. if c then waiting_without line.actor waiting else joined_by line waiting) is

pub put_alone : (auto : Bool) (waiting : List Operation) (line : Line) (ends : Bool) → is_batched line.event ≡ false → is_settle line.event ≡ ends
    → put_out auto waiting line ≡ (if ends then waiting_of line.actor waiting ++ line_operation line ∷ [] else line_operation line ∷ automatic_behind auto line)
put_alone auto waiting line ends alone is =
    ap (λ c. if c then (if is_filled_by line waiting then waiting_of line.actor (joined_by line waiting) ++ step_behind line 1 Settle ∷ [] else [])
    else (if is_settle line.event then waiting_of line.actor waiting ++ line_operation line ∷ [] else line_operation line ∷ automatic_behind auto line)) alone
    ∙ ap (λ c. if c then waiting_of line.actor waiting ++ line_operation line ∷ [] else line_operation line ∷ automatic_behind auto line) is

pub behind_alone : (waiting : List Operation) (line : Line) (ends : Bool) → is_batched line.event ≡ false → is_settle line.event ≡ ends
    → waiting_behind waiting line ≡ (if ends then waiting_without line.actor waiting else waiting)
behind_alone waiting line ends alone is =
    ap (λ c. if c then (if is_filled_by line waiting then waiting_without line.actor waiting else joined_by line waiting)
    else (if is_settle line.event then waiting_without line.actor waiting else waiting)) alone
    ∙ ap (λ c. if c then waiting_without line.actor waiting else waiting) is

-- a worker's line, as an operation of its own
own_operation : (line : Line) (number : ℕ) (event : Event) → line.actor ≡ Worker number → line.event ≡ event
    → line_operation line ≡ record { actor = Worker number; at = line.at; step = 0; event = event }
own_operation line number event own is = λ i. record { actor = own i; at = line.at; step = 0; event = is i }

own_step : (line : Line) (number step : ℕ) (event : Event) → line.actor ≡ Worker number
    → step_behind line step event ≡ record { actor = Worker number; at = line.at; step = step; event = event }
own_step line number step event own = λ i. record { actor = own i; at = line.at; step = step; event = event }

module _ (line : Line) (before after : JournalParts) (old new : WorkerParts)
    (own : line.actor ≡ Worker old.number) (works : WorksIn old (world_now before)) (below : old.number < before.workers) where
  -- a settle line
  pub settle_works : is_settle line.event ≡ true → HasSettled line.at 0 before after old new → HasWorked line before after old new
  settle_works ends settled =
      let event : line.event ≡ Settle = settle_is line.event ends in
      let alone : is_batched line.event ≡ false = ap is_batched event in
      record {
        goes_on = goes_on_by before after _ settled.entered;
        drawn = settle_draws before after old line.at 0 settled.entered below works;
        worker = record {
          number = settled.number;
          works = settled.works;
          room = subst (λ ls. length ls < 256) (sym settled.lines) (omega arith);
        };
        others = others_work before after old line.at 0 settled.entered;
        out = λ auto waiting waits.
            settled_operations before after old line.at 0 settled.entered
            ∙ ap (λ (o : Operation). operations_in before ++ (operations_made old ++ o ∷ [])) (sym (own_operation line old.number Settle own event))
            ∙ ap (λ (os : List Operation). operations_in before ++ (os ++ line_operation line ∷ [])) (sym waits)
            ∙ ap (λ a. operations_in before ++ (waiting_of a waiting ++ line_operation line ∷ [])) (sym own)
            ∙ ap (λ (os : List Operation). operations_in before ++ os) (sym (put_alone auto waiting line true alone ends));
        waits = λ waiting waits.
            ap (waiting_of (Worker old.number)) (behind_alone waiting line true alone ends)
            ∙ waiting_gone line.actor (Worker old.number) waiting ((actor_decides line.actor (Worker old.number)).1 own)
            ∙ ap (map _) (sym settled.lines);
      }

  module _ (mid : WorkerParts) (batched : is_batched line.event ≡ true) (joined : HasJoined line old mid) where
    mid_works : WorksIn mid (world_now before)
    mid_works = record {
      begun = works.begun;
      made = joined.from works.begun works.made;
      has =
          subst (λ n. HasWorker n mid.picture works.begun (world_now before)) (sym joined.number)
          (subst (λ p. HasWorker old.number p works.begun (world_now before)) (sym joined.picture) works.has);
    }

    joined_operations : (waiting : List Operation) → waiting_of (Worker old.number) waiting ≡ operations_made old
        → waiting_of (Worker old.number) (joined_by line waiting) ≡ operations_made mid
    joined_operations waiting waits =
        waiting_joined (Worker old.number) waiting (line_operation line) ((actor_decides line.actor (Worker old.number)).1 own)
        ∙ ap (λ (os : List Operation). os ++ line_operation line ∷ []) waits
        ∙ ap (λ (o : Operation). operations_made old ++ o ∷ []) (own_operation line old.number line.event own refl)
        ∙ sym joined.made

    filled : (waiting : List Operation) → waiting_of (Worker old.number) waiting ≡ operations_made old
        → is_filled_by line waiting ≡ (length (operations_made mid) == 256)
    filled waiting waits =
        ap (λ a. length (waiting_of a (joined_by line waiting)) == 256) own
        ∙ ap (λ (os : List Operation). length os == 256) (joined_operations waiting waits)

    -- an accept or close that fills the batch
    pub full_works : (length (operations_made mid) == 256) ≡ true → HasSettled line.at 1 before after mid new → HasWorked line before after old new
    full_works full settled =
        let within : mid.number < before.workers = subst (λ n. n < before.workers) (sym joined.number) below in
        record {
          goes_on = goes_on_by before after _ settled.entered;
          drawn = settle_draws before after mid line.at 1 settled.entered within mid_works;
          worker = record {
            number = settled.number ∙ joined.number;
            works = settled.works;
            room = subst (λ ls. length ls < 256) (sym settled.lines) (omega arith);
          };
          others = λ other apart. others_work before after mid line.at 1 settled.entered other (λ same. apart (same ∙ joined.number));
          out = λ auto waiting waits.
              settled_operations before after mid line.at 1 settled.entered
              ∙ ap (λ n. operations_in before ++ (operations_made mid ++ record { actor = Worker n; at = line.at; step = 1; event = Settle } ∷ [])) joined.number
              ∙ ap (λ (o : Operation). operations_in before ++ (operations_made mid ++ o ∷ [])) (sym (own_step line old.number 1 Settle own))
              ∙ ap (λ (os : List Operation). operations_in before ++ (os ++ step_behind line 1 Settle ∷ [])) (sym (joined_operations waiting waits))
              ∙ ap (λ a. operations_in before ++ (waiting_of a (joined_by line waiting) ++ step_behind line 1 Settle ∷ [])) (sym own)
              ∙ ap (λ (os : List Operation). operations_in before ++ os) (sym (put_batched auto waiting line true batched (filled waiting waits ∙ full)));
          waits = λ waiting waits.
              ap (waiting_of (Worker old.number)) (behind_batched waiting line true batched (filled waiting waits ∙ full))
              ∙ waiting_gone line.actor (Worker old.number) waiting ((actor_decides line.actor (Worker old.number)).1 own)
              ∙ ap (map _) (sym settled.lines);
        }

    -- and one that doesn't
    pub few_works : (length (operations_made mid) == 256) ≡ false → length mid.lines < 256 → HasWorked line before before old mid
    few_works few room = record {
      goes_on = refl;
      drawn = refl;
      worker = record { number = joined.number; works = mid_works; room = room };
      others = λ other apart works. works;
      out = λ auto waiting waits.
          sym (append-nil (operations_in before))
          ∙ ap (λ (os : List Operation). operations_in before ++ os) (sym (put_batched auto waiting line false batched (filled waiting waits ∙ few)));
      waits = λ waiting waits.
          ap (waiting_of (Worker old.number)) (behind_batched waiting line false batched (filled waiting waits ∙ few))
          ∙ joined_operations waiting waits;
    }

-- a line of the main side

-- workers work on after an event of the main side
pub main_works : (o : Operation) (before after : JournalParts) → IsMainSide o.actor → HasEntered o before after
    → (worker : WorkerParts) → WorksIn worker (world_now before) → WorksIn worker (world_now after)
main_works o before after side entered worker works = record {
  begun = works.begun;
  made = works.made;
  has =
      subst (HasWorker worker.number worker.picture works.begun) (sym (world_with before after (entry_of o entered.answer ∷ []) entered.entered))
      (entries_leave worker.number worker.picture works.begun before.format (world_now before) (entry_of o entered.answer ∷ []) (published_now before)
      ((λ other is same. subst IsMainSide is side), tt)
      works.has);
}

-- a publication and a reaping after a line
pub follows : (line : Line) (before next after : JournalParts) → IsMainSide line.actor
    → HasEntered (step_behind line 1 Publish) before next → HasEntered (step_behind line 2 Reap) next after → HasFollowed line before after
follows line before next after side one other = record {
  goes_on = goes_on_twice before next after (goes_on_by before next _ one.entered) (goes_on_by next after _ other.entered);
  drawn = let first : (world_now next).made ≤ (world_now before).made + 0 = one.drawn in let second : (world_now after).made ≤ (world_now next).made + 0 = other.drawn in omega arith;
  workers = λ worker works. main_works (step_behind line 2 Reap) next after side other worker (main_works (step_behind line 1 Publish) before next side one worker works);
  out =
      operations_with next after _ other.entered
      ∙ ap (λ (os : List Operation). os ++ step_behind line 2 Reap ∷ []) (operations_with before next _ one.entered)
      ∙ append_assoc (operations_in before) (step_behind line 1 Publish ∷ []) (step_behind line 2 Reap ∷ []);
}

module _ (workers : ℕ) (auto : Bool) (line : Line) (before next : JournalParts) (side : IsMainSide line.actor) (may : MayMake workers line.actor line.event)
    (entered : HasEntered (line_operation line) before next) where
  put_main : (followed : Bool) (waiting : List Operation) → (auto && is_automatic line.actor) ≡ followed
      → put_out auto waiting line ≡ line_operation line ∷ (if followed then step_behind line 1 Publish ∷ step_behind line 2 Reap ∷ [] else [])
  put_main followed waiting is =
      put_alone auto waiting line false (main_alone workers line.actor line.event may side).0 (main_alone workers line.actor line.event may side).1
      ∙ ap (λ c. line_operation line ∷ (if c then step_behind line 1 Publish ∷ step_behind line 2 Reap ∷ [] else [])) is

  pub goes_alone : (auto && is_automatic line.actor) ≡ false → HasGoneOut auto line before next
  goes_alone is = record {
    goes_on = goes_on_by before next _ entered.entered;
    drawn = entered.drawn;
    workers = main_works (line_operation line) before next side entered;
    out = λ waiting.
        operations_with before next _ entered.entered
        ∙ ap (λ (os : List Operation). operations_in before ++ os) (sym (put_main false waiting is));
  }

  pub goes_followed : (after : JournalParts) → (auto && is_automatic line.actor) ≡ true → HasFollowed line next after → HasGoneOut auto line before after
  goes_followed after is followed = record {
    goes_on = goes_on_twice before next after (goes_on_by before next _ entered.entered) followed.goes_on;
    drawn = let first : (world_now next).made ≤ (world_now before).made + items_in line.event = entered.drawn in let second : (world_now after).made ≤ (world_now next).made = followed.drawn in omega arith;
    workers = λ worker works. followed.workers worker (main_works (line_operation line) before next side entered worker works);
    out = λ waiting.
        followed.out
        ∙ ap (λ (os : List Operation). os ++ step_behind line 1 Publish ∷ step_behind line 2 Reap ∷ []) (operations_with before next _ entered.entered)
        ∙ append_assoc (operations_in before) (line_operation line ∷ []) (step_behind line 1 Publish ∷ step_behind line 2 Reap ∷ [])
        ∙ ap (λ (os : List Operation). operations_in before ++ os) (sym (put_main true waiting is));
  }
