-- A line that one of the workers, or the main side, has made: all work on, and what waits is theirs.
use Rattle.std.proofs.Common.{◌≡◌, ℕ, ◌<◌, ◌==◌, Bool, true, false, List, length, get_or, refl, sym, ap, ◌∙◌, subst, arith}
use Rattle.std.specs.Prelude.{slice_set}
use Rattle.std.proofs.lemmas.List.{get_or-set_other, length-set}
use Rattle.std.proofs.lemmas.Grind.{get_or-set_at}
use Rattle.ev_types.specs.Events.{IsMainSide, MayMake}
use Rattle.ev_types.specs.Same.{numbers_decide}
use Rattle.ev_types.specs.declared.events.Actor.{Actor}
use Rattle.ev_types.specs.declared.events.Actor.TheVariants.{Worker}
use Rattle.ev_types.specs.declared.events.Line.{Line}
use Rattle.ev_model.specs.Runs.{is_batched}
use Rattle.ev_model.specs.Operations.{Operation, actor_same, is_settle, line_operation}
use Rattle.ev_worker.specs.Workers.{WorkerParts}
use Rattle.ev_actors.specs.Journals.{JournalParts, world_now}
use Rattle.ev_actors.specs.Passes.{is_filled_by, waiting_behind, waiting_of}
use Rattle.ev_actors.specs.Taken.{HasGoneOut, HasWorked, IsTaken}
use Rattle.ev_actors.specs.Working.{AreAtWork, HaveWaiting, IsAtWork, operations_made}
use Rattle.ev_actors.proofs.PassLemmas.{waiting_other, waiting_stays}
use Rattle.ev_actors.proofs.LineLemmas.{behind_alone, behind_batched, main_alone}

-- what waits of the others stays
behind_other : (actor : Actor) (waiting : List Operation) (line : Line) → actor_same line.actor actor ≡ false
    → waiting_of actor (waiting_behind waiting line) ≡ waiting_of actor waiting
behind_other actor waiting line apart = by (is_batched line.event) refl
  where
    by_full : (b : Bool) → is_batched line.event ≡ true → is_filled_by line waiting ≡ b → waiting_of actor (waiting_behind waiting line) ≡ waiting_of actor waiting
    by_full true batched is = ap (waiting_of actor) (behind_batched waiting line true batched is) ∙ waiting_stays line.actor actor waiting apart
    by_full false batched is = ap (waiting_of actor) (behind_batched waiting line false batched is) ∙ waiting_other actor waiting (line_operation line) apart

    by_end : (b : Bool) → is_batched line.event ≡ false → is_settle line.event ≡ b → waiting_of actor (waiting_behind waiting line) ≡ waiting_of actor waiting
    by_end true alone is = ap (waiting_of actor) (behind_alone waiting line true alone is) ∙ waiting_stays line.actor actor waiting apart
    by_end false alone is = ap (waiting_of actor) (behind_alone waiting line false alone is)

    by : (b : Bool) → is_batched line.event ≡ b → waiting_of actor (waiting_behind waiting line) ≡ waiting_of actor waiting
    by true is = by_full (is_filled_by line waiting) is refl
    by false is = by_end (is_settle line.event) is refl

not_same : (a b : ℕ) → (a == b) ≡ false → a ≡ b → ⊥
not_same a b apart same = let is : (a == b) ≡ true = (numbers_decide a b).1 same in cc

module _ (auto : Bool) (line : Line) (before after : JournalParts) (workers : List WorkerParts) (number : ℕ) (old new : WorkerParts)
    (within : number < length workers) (at : old ≡ get_or workers number old) (working : AreAtWork (world_now before) workers)
    (own : line.actor ≡ Worker number) (worked : HasWorked line before after old new) where
  numbered : old.number ≡ number
  numbered = ap (λ (w : WorkerParts). w.number) at ∙ (working number old within).number

  -- the worker of the line, and another
  works_by : (k : ℕ) (d : WorkerParts) (b : Bool) → (k == number) ≡ b → k < length workers → IsAtWork k (world_now after) (get_or (slice_set workers number new) k d)
  works_by k d true is below =
      let same : k ≡ number = (numbers_decide k number).0 is in
      subst (IsAtWork k (world_now after)) (sym (get_or-set_at workers number k new d same within))
      (subst (λ n. IsAtWork n (world_now after) new) (numbered ∙ sym same) worked.worker)
  works_by k d false is below =
      let here : IsAtWork k (world_now before) (get_or workers k d) = working k d below in
      subst (IsAtWork k (world_now after)) (sym (get_or-set_other workers number k new d (not_same k number is)))
      (record {
        number = here.number;
        works = worked.others (get_or workers k d) (λ same. not_same k number is (sym here.number ∙ same ∙ numbered)) here.works;
        room = here.room;
      })

  here_waits : (waiting : List Operation) → HaveWaiting workers waiting → waiting_of (Worker old.number) waiting ≡ operations_made old
  here_waits waiting waits = ap (λ n. waiting_of (Worker n) waiting) numbered ∙ waits number old within ∙ ap operations_made (sym at)

  waits_by : (waiting : List Operation) → HaveWaiting workers waiting → (k : ℕ) (d : WorkerParts) (b : Bool) → (k == number) ≡ b → k < length workers
      → waiting_of (Worker k) (waiting_behind waiting line) ≡ operations_made (get_or (slice_set workers number new) k d)
  waits_by waiting waits k d true is below =
      let same : k ≡ number = (numbers_decide k number).0 is in
      ap (λ n. waiting_of (Worker n) (waiting_behind waiting line)) (same ∙ sym numbered)
      ∙ worked.waits waiting (here_waits waiting waits)
      ∙ ap operations_made (sym (get_or-set_at workers number k new d same within))
  waits_by waiting waits k d false is below =
      behind_other (Worker k) waiting line (ap (λ a. actor_same a (Worker k)) own ∙ turned k is)
      ∙ waits k d below
      ∙ ap operations_made (sym (get_or-set_other workers number k new d (not_same k number is)))
    where
      turned : (k : ℕ) → (k == number) ≡ false → (number == k) ≡ false
      turned k is = by (number == k) refl
        where
          by : (b : Bool) → (number == k) ≡ b → (number == k) ≡ false
          by true h = absurd (not_same k number is (sym ((numbers_decide number k).0 h)))
          by false h = h

  pub takes_worker : IsTaken auto line before after workers (slice_set workers number new)
  takes_worker = record {
    goes_on = worked.goes_on;
    drawn = let same : (world_now after).made ≡ (world_now before).made = worked.drawn in omega arith;
    count = length-set workers number new;
    working = λ k d below. works_by k d (k == number) refl (subst (λ n. k < n) (length-set workers number new) below);
    out = λ waiting waits. worked.out auto waiting (here_waits waiting waits);
    waits = λ waiting waits k d below. waits_by waiting waits k d (k == number) refl (subst (λ n. k < n) (length-set workers number new) below);
  }

-- a line of the main side
pub takes_main : (auto : Bool) (line : Line) (before after : JournalParts) (workers : List WorkerParts) → IsMainSide line.actor
    → MayMake before.workers line.actor line.event → AreAtWork (world_now before) workers → HasGoneOut auto line before after
    → IsTaken auto line before after workers workers
takes_main auto line before after workers side may working gone = record {
  goes_on = gone.goes_on;
  drawn = gone.drawn;
  count = refl;
  working = λ k d below.
      let here : IsAtWork k (world_now before) (get_or workers k d) = working k d below in
      record { number = here.number; works = gone.workers (get_or workers k d) here.works; room = here.room };
  out = λ waiting waits. gone.out waiting;
  waits = λ waiting waits k d below.
      ap (waiting_of (Worker k)) (behind_alone waiting line false (main_alone before.workers line.actor line.event may side).0 (main_alone before.workers line.actor line.event may side).1)
      ∙ waits k d below;
}
