-- An actor begins with all its operations, and goes on by what is due next.
use Rattle.std.proofs.Common.{◌≡◌, ℕ, zero, suc, ◌+◌, ◌<◌, true, List, [], ◌∷◌, ◌++◌, Some, map, length, drop, get_or, replicate, add-one, refl, ap, sym, ◌∙◌, subst}
use Rattle.std.specs.Prelude.{slice_index_or}
use Rattle.std.proofs.Math.Seq.{drop-cons}
use Rattle.ev_types.specs.Events.{IsMainSide, MayMake}
use Rattle.ev_types.specs.Scripts.{IsScript, ScriptParts}
use Rattle.ev_types.specs.declared.events.Actor.{Actor}
use Rattle.ev_types.specs.declared.events.Actor.TheVariants.{Worker}
use Rattle.ev_model.specs.World.{opening}
use Rattle.ev_model.specs.Dead.{last_picture, picture_at}
use Rattle.ev_model.specs.Operations.{Operation, operations_of}
use Rattle.ev_worker.specs.Workers.{WorkerParts}
use Rattle.ev_worker.specs.declared.lines.BatchLine.{BatchLine}
use Rattle.ev_actors.specs.Journals.{JournalParts, WorksIn, nothing_done, world_now}
use Rattle.ev_actors.specs.Taken.{HasBegun}
use Rattle.ev_actors.specs.Working.{operation_made}
use Rattle.ev_operations.specs.Dues.{AreDue, operation_due}
use Rattle.ev_operations.specs.declared.due.Due.{Due}
use Rattle.ev_run.specs.Left.{FitsSoFar, KeepToBatches}
use Rattle.ev_run.specs.Acting.{HasDone, HasEnded, HasGoneThrough, IsActing, IsActingOn, IsNextAct, IsNextWork, IsWorking, IsWorkingOn}
use Rattle.ev_run.proofs.ActLemmas.{acts, acts_ended, suffices}
use Rattle.ev_run.proofs.OwnLemmas.{all_own, few_items, keep_to_batches}
use Rattle.ev_run.proofs.WorkLemmas.{works_ended}

-- what is at a place of a list, and what comes after it
pub next_of : {X : Type 0} (items : List X) (place : ℕ) (item : X) → place < length items → item ≡ get_or items place item
    → drop place items ≡ item ∷ drop (place + 1) items
next_of items place item within is =
    drop-cons items place item within
    ∙ ap (λ n. get_or items place item ∷ drop n items) (sym (add-one place))
    ∙ ap (λ x. x ∷ drop (place + 1) items) (sym is)

cons_none : {X : Type 0} (x : X) (xs : List X) → x ∷ xs ≡ [] → ⊥
cons_none x xs h = cc

cons_first : {X : Type 0} (x y : X) (xs ys : List X) → x ∷ xs ≡ y ∷ ys → x ≡ y
cons_first x y xs ys h = cc

cons_rest : {X : Type 0} (x y : X) (xs ys : List X) → x ∷ xs ≡ y ∷ ys → xs ≡ ys
cons_rest x y xs ys h = cc

pub some_same : {X : Type 0} (x y : X) → Some x ≡ Some y → x ≡ y
some_same x y h = cc

-- the first of what is due is the first that is left
record IsFirstDue (script : ScriptParts) (actor : Actor) (due : Due) (todo : List Due) (left : List Operation) : Type 0 where
  operation : Operation
  others : List Operation
  whole : left ≡ operation ∷ others
  is : operation_due script actor due ≡ Some operation
  rest : AreDue script actor todo others

first_due : (script : ScriptParts) (actor : Actor) (due : Due) (todo : List Due) (left : List Operation) → AreDue script actor (due ∷ todo) left
    → IsFirstDue script actor due todo left
first_due script actor due todo [] are = absurd (cons_none (operation_due script actor due) (map (operation_due script actor) todo) are)
first_due script actor due todo (o ∷ left) are = record {
  operation = o;
  others = left;
  whole = refl;
  is = cons_first (operation_due script actor due) (Some o) (map (operation_due script actor) todo) (map Some left) are;
  rest = cons_rest (operation_due script actor due) (Some o) (map (operation_due script actor) todo) (map Some left) are;
}

none_left : (script : ScriptParts) (actor : Actor) (left : List Operation) → AreDue script actor [] left → left ≡ []
none_left script actor [] are = refl
none_left script actor (o ∷ left) are = absurd (cons_none (Some o) (map Some left) (sym are))

-- an actor of the main side
pub begins_acting : (script : ScriptParts) (actor : Actor) (dues : List Due) (parts : JournalParts) → IsScript script → parts ≡ nothing_done script
    → AreDue script actor dues (operations_of script actor) → IsActingOn script actor dues parts
begins_acting script actor dues parts kept none are = record {
  left = operations_of script actor;
  due = are;
  acting =
      subst (IsActing script actor (operations_of script actor)) (sym none) (record {
        own = all_own script actor kept;
        suffice = λ stream. few_items script actor kept;
        rests = true;
        fits = λ deeds done. done;
      });
}

pub next_act : (script : ScriptParts) (actor : Actor) (due : Due) (todo : List Due) (parts : JournalParts) → IsActingOn script actor (due ∷ todo) parts
    → IsNextAct script actor due parts
next_act script actor due todo parts on =
    let first : IsFirstDue script actor due todo on.left = first_due script actor due todo on.left on.due in
    let acting : IsActing script actor (first.operation ∷ first.others) parts = subst (λ (os : List Operation). IsActing script actor os parts) first.whole on.acting in
    record {
      operation = first.operation;
      is = first.is;
      own = acting.own.0.0;
      allowed = acting.own.0.1;
      suffice =
          suffices script.workers actor first.operation first.others parts
          (subst (λ a. MayMake script.workers a first.operation.event) acting.own.0.0 acting.own.0.1) acting.suffice;
    }

pub acts_on : (script : ScriptParts) (actor : Actor) (due : Due) (todo : List Due) (before after : JournalParts) → IsActingOn script actor (due ∷ todo) before
    → HasDone script actor due before after → IsActingOn script actor todo after
acts_on script actor due todo before after on done =
    let first : IsFirstDue script actor due todo on.left = first_due script actor due todo on.left on.due in
    record {
      left = first.others;
      due = first.rest;
      acting =
          acts script actor first.operation first.others before after
          (subst (λ (os : List Operation). IsActing script actor os before) first.whole on.acting) (done first.operation first.is);
    }

pub acting_ended : (script : ScriptParts) (actor : Actor) (parts : JournalParts) → IsMainSide actor → IsActingOn script actor [] parts → HasEnded script actor parts
acting_ended script actor parts main on =
    acts_ended script actor parts main
    (subst (λ (os : List Operation). IsActing script actor os parts) (none_left script actor on.left on.due) on.acting)

-- a worker
zero_at : (n k : ℕ) → slice_index_or {A = ℕ} (replicate n 0) k 0 ≡ 0
zero_at zero k = refl
zero_at (suc n) zero = refl
zero_at (suc n) (suc k) = zero_at n k

fresh_works : (script : ScriptParts) (number : ℕ) (worker : WorkerParts) → HasBegun number (last_picture (world_now (nothing_done script))) worker
    → WorksIn worker (world_now (nothing_done script))
fresh_works script number worker begun = record {
  begun = [];
  made = begun.made;
  has = record {
    holds = ap (picture_at (opening script.workers script.node)) (zero_at script.workers worker.number) ∙ sym begun.picture;
    has = λ connection. refl;
  };
}

pub begins_working : (script : ScriptParts) (worker : WorkerParts) (dues : List Due) (parts : JournalParts) → IsScript script → parts ≡ nothing_done script
    → worker.number < script.workers → HasBegun worker.number (last_picture (world_now (nothing_done script))) worker
    → AreDue script (Worker worker.number) dues (operations_of script (Worker worker.number)) → IsWorkingOn script worker dues parts
begins_working script worker dues parts kept none within begun are = record {
  left = operations_of script (Worker worker.number);
  due = are;
  working =
      subst (IsWorking script worker (operations_of script (Worker worker.number))) (sym none) (record {
        own = all_own script (Worker worker.number) kept;
        works = fresh_works script worker.number worker begun;
        room =
            subst (λ (ls : List BatchLine). KeepToBatches (length ls) (operations_of script (Worker worker.number))) (sym begun.lines)
            (keep_to_batches script kept worker.number within);
        rests = true;
        fits =
            subst (λ (ls : List BatchLine). FitsSoFar (operations_of script (Worker worker.number)) (Worker worker.number) true
            (map (operation_made worker.number) ls ++ operations_of script (Worker worker.number)) (nothing_done script)) (sym begun.lines) (λ deeds done. done);
        idle = λ idle. refl;
        news = tt;
      });
}

pub next_work : (script : ScriptParts) (worker : WorkerParts) (due : Due) (todo : List Due) (parts : JournalParts) → IsWorkingOn script worker (due ∷ todo) parts
    → IsNextWork script worker due parts
next_work script worker due todo parts on =
    let first : IsFirstDue script (Worker worker.number) due todo on.left = first_due script (Worker worker.number) due todo on.left on.due in
    let working : IsWorking script worker (first.operation ∷ first.others) parts = subst (λ (os : List Operation). IsWorking script worker os parts) first.whole on.working in
    record {
      operation = first.operation;
      is = first.is;
      own = working.own.0.0;
      allowed = working.own.0.1;
      works = working.works;
      room = working.room.0;
    }

pub works_on : (script : ScriptParts) (due : Due) (todo : List Due) (before after : JournalParts) (old new : WorkerParts) → new.number ≡ old.number
    → IsWorkingOn script old (due ∷ todo) before → HasGoneThrough script due before after old new → IsWorkingOn script new todo after
works_on script due todo before after old new number on through =
    let first : IsFirstDue script (Worker old.number) due todo on.left = first_due script (Worker old.number) due todo on.left on.due in
    record {
      left = first.others;
      due = subst (λ n. AreDue script (Worker n) todo first.others) (sym number) first.rest;
      working =
          through first.operation first.is first.others
          (subst (λ (os : List Operation). IsWorking script old os before) first.whole on.working);
    }

pub working_ended : (script : ScriptParts) (worker : WorkerParts) (parts : JournalParts) → IsWorkingOn script worker [] parts
    → HasEnded script (Worker worker.number) parts
working_ended script worker parts on =
    works_ended script worker parts
    (subst (λ (os : List Operation). IsWorking script worker os parts) (none_left script (Worker worker.number) on.left on.due) on.working)
