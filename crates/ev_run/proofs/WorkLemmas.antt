-- A worker's operation: an accept or close joins its batch, and a settle is made or left out.
use Rattle.std.proofs.Common.{◌≡◌, ℕ, suc, ◌+◌, ◌==◌, ◌&&◌, Bool, true, false, not, if◌then◌else◌, List, [], ◌∷◌, ◌++◌, map, filter, length, refl, ap, sym, ◌∙◌, subst, append_assoc, arith}
use Rattle.std.specs.List.{AllByRecursion as ByRecursion, list_any}
use Rattle.std.proofs.lemmas.List.{map-append}
use Rattle.ev_types.specs.Same.{numbers_decide}
use Rattle.ev_types.specs.Scripts.{ScriptParts}
use Rattle.ev_types.specs.declared.events.Actor.TheVariants.{Worker}
use Rattle.ev_types.specs.declared.events.Entry.{Entry}
use Rattle.ev_types.specs.declared.journals.Format.TheVariants.{Two}
use Rattle.ev_model.specs.declared.pictures.Picture.{Picture}
use Rattle.ev_model.specs.World.{World, OpenMember}
use Rattle.ev_model.specs.Connections.{is_member}
use Rattle.ev_model.specs.Runs.{is_batched, world_after}
use Rattle.ev_model.specs.Operations.{Deed, Operation, deeds_from, is_held_by, operation_of, operations_of, rests_behind}
use Rattle.ev_model_laws.proofs.DeedLemmas.{ops, rest_after}
use Rattle.ev_model_laws.proofs.OperationLists.{IsIn, any_none, each_append}
use Rattle.ev_worker.specs.Batches.{entries_of}
use Rattle.ev_worker.specs.Workers.{HasWorker, IsMadeFrom, IsWorkerIn, WorkerParts}
use Rattle.ev_worker.specs.declared.lines.BatchLine.{BatchLine}
use Rattle.ev_actors.specs.Journals.{JournalParts, WorksIn, entries_made, settle_made, world_now}
use Rattle.ev_actors.specs.Working.{operation_made, operations_made}
use Rattle.ev_actors.proofs.SettleLemmas.{batch_operations, world_with}
use Rattle.ev_actors.proofs.SinceLemmas.{in_kept}
use Rattle.ev_commits.specs.Seen.{HasCommitted, IsIdle, IsLeftOut, LearnsAtRest}
use Rattle.ev_run.specs.Left.{AreOwn, FitsSoFar, KeepToBatches, deeds_in}
use Rattle.ev_run.specs.Acting.{HasEnded, HasNews, IsWorking, settle_of}
use Rattle.ev_run.proofs.FitLemmas.{all_own, deeds_ops, deeds_with, fits_ended, fits_idle, fits_more, fits_stays, rest_last}
use Rattle.ev_run.proofs.NewsLemmas.{news_more}

-- where nothing of a worker is open by number, it has nothing open
none_held : (number : ℕ) (opened : List OpenMember) → ((connection : ℕ) → filter (is_member number connection) opened ≡ [])
    → list_any (is_held_by (Worker number)) opened ≡ false
none_held number opened none = any_none (is_held_by (Worker number)) opened (λ m there. by m there (m.worker == number) refl)
  where
    nowhere : (m : OpenMember) (ms : List OpenMember) → ms ≡ [] → IsIn m ms → ⊥
    nowhere m ms is there = subst (IsIn m) is there

    by : (m : OpenMember) → IsIn m opened → (b : Bool) → (m.worker == number) ≡ b → (m.worker == number) ≡ false
    by m there false is = is
    by m there true is =
        absurd (nowhere m (filter (is_member number m.connection) opened) (none m.connection)
        (in_kept (is_member number m.connection) m opened there
        (ap (λ b. b && (m.connection == m.connection)) is ∙ (numbers_decide m.connection m.connection).1 refl)))

-- an idle worker has nothing open in the world in which it works
idle_rests : (worker : WorkerParts) (number : ℕ) (world : World) → worker.number ≡ number → WorksIn worker world → IsIdle worker
    → list_any (is_held_by (Worker number)) world.opened ≡ false
idle_rests worker number world is works idle =
    let stands : IsWorkerIn worker world =
    subst (λ (lines : List BatchLine). IsWorkerIn worker (world_after Two world (entries_of worker.number worker.picture lines))) idle.0
    (works.made.leads Two world works.has) in
    none_held number world.opened
    (λ connection.
    ap (λ n. filter (is_member n connection) world.opened) (sym is)
    ∙ sym (stands.has connection)
    ∙ idle.1 connection)

cons_length : {X : Type 0} (xs : List X) → length xs ≡ 0 → xs ≡ []
cons_length [] is = refl
cons_length (x ∷ xs) is = absurd (none (length xs) is)
  where
    none : (n : ℕ) → suc n ≡ 0 → ⊥
    none n is = omega arith

-- a worker of another's number in the world is the same
renumbered : (script : ScriptParts) (old new : WorkerParts) (rests : Bool) (left : List Operation) (parts : JournalParts)
    → new.number ≡ old.number → new.lines ≡ []
    → FitsSoFar (operations_of script (Worker old.number)) (Worker old.number) rests left parts
    → FitsSoFar (operations_of script (Worker new.number)) (Worker new.number) rests (operations_made new ++ left) parts
renumbered script old new rests left parts number lines fits =
    subst (λ (ls : List BatchLine). FitsSoFar (operations_of script (Worker new.number)) (Worker new.number) rests (map (operation_made new.number) ls ++ left) parts) (sym lines)
    (subst (λ n. FitsSoFar (operations_of script (Worker n)) (Worker n) rests left parts) (sym number) fits)

batch_own : (number : ℕ) (picture : Picture) (lines : List BatchLine) → ByRecursion (λ (e : Entry). e.actor ≡ Worker number) (entries_of number picture lines)
batch_own number picture [] = tt
batch_own number picture (line ∷ lines) = (refl, batch_own number picture lines)

module _ (script : ScriptParts) (old new : WorkerParts) (at n : ℕ) (left : List Operation) (before after : JournalParts)
    (was : IsWorking script old (settle_of old at n ∷ left) before) where
  -- the settle is made
  module _ (committed : HasCommitted at n before after old new) (learns : LearnsAtRest after old) where
    abbrev turn : JournalParts
    turn = committed.turn

    abbrev made : List Entry
    made = entries_made old ++ settle_made old at n turn ∷ []

    abbrev new_deeds : List Deed
    new_deeds = deeds_from turn.format (world_now turn) made

    own_made : ByRecursion (λ (e : Entry). e.actor ≡ Worker old.number) made
    own_made =
        each_append (λ (e : Entry). e.actor ≡ Worker old.number) (entries_made old) (settle_made old at n turn ∷ [])
        (batch_own old.number old.picture old.lines) (refl, tt)

    deeds_are : deeds_in after (Worker old.number) ≡ deeds_in turn (Worker old.number) ++ new_deeds
    deeds_are =
        deeds_with (Worker old.number) turn after made committed.settled.entered
        ∙ ap (λ (ds : List Deed). deeds_in turn (Worker old.number) ++ ds) (all_own (Worker old.number) turn.format (world_now turn) made own_made)

    ops_are : ops new_deeds ≡ operations_made old ++ settle_of old at n ∷ []
    ops_are =
        deeds_ops turn.format (world_now turn) made
        ∙ map-append operation_of (entries_made old) (settle_made old at n turn ∷ [])
        ∙ ap (λ (os : List Operation). os ++ settle_of old at n ∷ []) (batch_operations old.number old.picture old.lines)

    left_are : ops new_deeds ++ left ≡ operations_made old ++ settle_of old at n ∷ left
    left_are = ap (λ (os : List Operation). os ++ left) ops_are ∙ append_assoc (operations_made old) (settle_of old at n ∷ []) left

    resting : IsIdle new → rest_after was.rests new_deeds ≡ true
    resting idle =
        rest_last was.rests turn.format (world_now turn) (entries_made old) (settle_made old at n turn)
        ∙ ap (λ (w : World). rests_behind w (settle_of old at n)) (sym (world_with turn after made committed.settled.entered))
        ∙ ap not (idle_rests new old.number (world_now after) committed.settled.number committed.settled.works idle)

    pub commits : IsWorking script new left after
    commits = record {
      own = subst (λ number. AreOwn script.workers (Worker number) left) (sym committed.settled.number) was.own.1;
      works = committed.settled.works;
      room = subst (λ (ls : List BatchLine). KeepToBatches (length ls) left) (sym committed.settled.lines) was.room.1;
      rests = rest_after was.rests new_deeds;
      fits =
          renumbered script old new (rest_after was.rests new_deeds) left after committed.settled.number committed.settled.lines
          (fits_more (operations_of script (Worker old.number)) (Worker old.number) was.rests left turn after new_deeds deeds_are
          (subst (λ (os : List Operation). FitsSoFar (operations_of script (Worker old.number)) (Worker old.number) was.rests os turn) (sym left_are)
          (fits_stays (operations_of script (Worker old.number)) (Worker old.number) was.rests (operations_made old ++ settle_of old at n ∷ left) before turn
          committed.grows was.fits)));
      idle = resting;
      news =
          subst (λ number. HasNews (Worker number) after) (sym committed.settled.number)
          (news_more at n before after old new was.works committed learns was.news);
    }

  -- the settle is left out
  left_by : IsIdle old → IsWorking script old left before
  left_by idle = record {
    own = was.own.1;
    works = was.works;
    room = subst (λ (ls : List BatchLine). KeepToBatches (length ls) left) (sym idle.0) was.room.1;
    rests = was.rests;
    fits =
        subst (λ (ls : List BatchLine). FitsSoFar (operations_of script (Worker old.number)) (Worker old.number) was.rests (map (operation_made old.number) ls ++ left) before) (sym idle.0)
        (fits_idle (operations_of script (Worker old.number)) (Worker old.number) was.rests (settle_of old at n) left before refl (was.idle idle)
        (subst (λ (ls : List BatchLine). FitsSoFar (operations_of script (Worker old.number)) (Worker old.number) was.rests (map (operation_made old.number) ls ++ settle_of old at n ∷ left) before) idle.0
        was.fits));
    idle = was.idle;
    news = was.news;
  }

  pub leaves_out : (heard : JournalParts) → IsLeftOut before after heard old new → IsWorking script new left after
  leaves_out heard out =
      subst (λ (w : WorkerParts). IsWorking script w left after) (sym out.same)
      (subst (IsWorking script old left) (sym out.seen) (left_by out.idle))

-- an accept or close joins the batch
pub joins : (script : ScriptParts) (old new : WorkerParts) (o : Operation) (left : List Operation) (parts : JournalParts)
    → IsWorking script old (o ∷ left) parts → is_batched o.event ≡ true → new.number ≡ old.number → new.picture ≡ old.picture
    → length new.lines ≡ length old.lines + 1 → operations_made new ≡ operations_made old ++ o ∷ []
    → ((begun : List OpenMember) → IsMadeFrom begun old → IsMadeFrom begun new) → IsWorking script new left parts
joins script old new o left parts was batched number picture longer made from = record {
  own = subst (λ n. AreOwn script.workers (Worker n) left) (sym number) was.own.1;
  works = record {
    begun = was.works.begun;
    made = from was.works.begun was.works.made;
    has =
        subst (λ n. HasWorker n new.picture was.works.begun (world_now parts)) (sym number)
        (subst (λ p. HasWorker old.number p was.works.begun (world_now parts)) (sym picture) was.works.has);
  };
  room = subst (λ n. KeepToBatches n left) (counted (is_batched o.event) batched ∙ sym longer) was.room.1;
  rests = was.rests;
  fits =
      subst (λ (os : List Operation). FitsSoFar (operations_of script (Worker new.number)) (Worker new.number) was.rests os parts)
      (sym (append_assoc (operations_made old) (o ∷ []) left) ∙ ap (λ (os : List Operation). os ++ left) (sym made))
      (subst (λ n. FitsSoFar (operations_of script (Worker n)) (Worker n) was.rests (operations_made old ++ o ∷ left) parts) (sym number) was.fits);
  idle = λ idle. absurd (some (length old.lines) (sym longer ∙ ap length idle.0));
  news = subst (λ n. HasNews (Worker n) parts) (sym number) was.news;
}
  where
    counted : (b : Bool) → b ≡ true → (if b then length old.lines + 1 else 0) ≡ length old.lines + 1
    counted true is = refl
    counted false is = cc

    some : (n : ℕ) → n + 1 ≡ 0 → ⊥
    some n is = omega arith

-- with nothing left it has done all
pub works_ended : (script : ScriptParts) (worker : WorkerParts) (parts : JournalParts) → IsWorking script worker [] parts
    → HasEnded script (Worker worker.number) parts
works_ended script worker parts working = record {
  done =
      fits_ended (operations_of script (Worker worker.number)) (Worker worker.number) working.rests parts
      (subst (λ (ls : List BatchLine). FitsSoFar (operations_of script (Worker worker.number)) (Worker worker.number) working.rests (map (operation_made worker.number) ls ++ []) parts)
      (cons_length worker.lines working.room) working.fits);
  news = working.news;
}
