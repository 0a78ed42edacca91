-- Why a script has one replay, and why it holds each actor's operations.
-- In the order of a replay an accept or close is in a batch of its actor, which another operation ends.
use Rattle.std.proofs.Common.{◌≡◌, inl, inr, ℕ, Bool, true, false, not, List, [], ◌∷◌, ◌++◌, map, filter, refl, ap, sym, ◌∙◌, subst}
use Rattle.std.specs.Prelude.{⊤}
use Rattle.std.specs.List.{AllByRecursion as ByRecursion, flat_map}
use Rattle.std.proofs.lemmas.List.Elements.{recursion_from_All}
use Rattle.ev_types.specs.Scripts.{ScriptParts}
use Rattle.ev_types.specs.declared.events.Actor.{Actor}
use Rattle.ev_types.specs.declared.events.Answer.{Answer}
use Rattle.ev_types.specs.declared.events.Entry.{Entry}
use Rattle.ev_types.specs.declared.journals.Format.{Format}
use Rattle.ev_types.specs.declared.journals.Format.TheVariants.{One, Two}
use Rattle.ev_model.specs.World.{World, opening}
use Rattle.ev_model.specs.Step.{step}
use Rattle.ev_model.specs.Runs.{RunsFrom, is_batched, GoesOnWith, IsUnbroken}
use Rattle.ev_model.specs.Operations.{Operation, Deed, Fits, AreDone, actor_same, is_in_batch, with_batch, all_operations, operations_of, replay_operations, operation_of, entry_of, entries_of, journal_from, deeds_from, deeds_of}
use Rattle.ev_model_laws.specs.OneReplay.{HasReplay, HasOneReplay, HoldsOperations, ReplayIsRunOf}
use Rattle.ev_model_laws.proofs.OperationLists.{IsIn, at_in, each_in, in_filter, each_append, each_flat, map_filter}
use Rattle.ev_model_laws.proofs.ScriptOperations.{IsAllowed, all_allowed, made_by}
use Rattle.ev_model_laws.proofs.BatchLemmas.{batch_own, replay_keeps}

-- the actor's is the first of these operations
abbrev Begins : Actor → List Operation → Type 0
Begins actor [] = ⊥
Begins actor (o ∷ os) = o.actor ≡ actor

-- directly after each accept or close comes an operation of its actor
abbrev AreUnbroken : List Operation → Type 0
AreUnbroken [] = ⊤
AreUnbroken (o ∷ os) = (is_batched o.event ≡ true → Begins o.actor os) × AreUnbroken os

begins_append : (actor : Actor) (os others : List Operation) → Begins actor os → Begins actor (os ++ others)
begins_append actor [] others begins = absurd begins
begins_append actor (o ∷ os) others begins = begins

unbroken_append : (os others : List Operation) → AreUnbroken os → AreUnbroken others → AreUnbroken (os ++ others)
unbroken_append [] others one other = other
unbroken_append (o ∷ os) others one other = (λ h. begins_append o.actor os others (one.0 h), unbroken_append os others one.1 other)

batch_begins : (actor : Actor) (batch : List Operation) (last : Operation) → ((o : Operation) → IsIn o (batch ++ last ∷ []) → o.actor ≡ actor)
    → Begins actor (batch ++ last ∷ [])
batch_begins actor [] last own = own last (inl refl)
batch_begins actor (o ∷ batch) last own = own o (inl refl)

-- operations of one actor, the last of which is no accept or close, are unbroken
batch_unbroken : (actor : Actor) (batch : List Operation) (last : Operation) → ((o : Operation) → IsIn o (batch ++ last ∷ []) → o.actor ≡ actor)
    → is_batched last.event ≡ false → AreUnbroken (batch ++ last ∷ [])
batch_unbroken actor [] last own ends = (λ h. cc, tt)
batch_unbroken actor (o ∷ batch) last own ends = (
  λ h. subst (λ a. Begins a (batch ++ last ∷ [])) (sym (own o (inl refl))) (batch_begins actor batch last (λ x is. own x (inr is))),
  batch_unbroken actor batch last (λ x is. own x (inr is)) ends,
)

not_so : (b : Bool) → not b ≡ true → b ≡ false
not_so true h = sym h
not_so false h = refl

batches_unbroken : (os some : List Operation) → ((o : Operation) → IsIn o some → not (is_batched o.event) ≡ true) → AreUnbroken (flat_map (with_batch os) some)
batches_unbroken os [] ended = tt
batches_unbroken os (last ∷ some) ended =
    unbroken_append (with_batch os last) (flat_map (with_batch os) some)
    (batch_unbroken last.actor (filter (is_in_batch os last) os) last (λ x is. batch_own os last x is) (not_so (is_batched last.event) (ended last (inl refl))))
    (batches_unbroken os some (λ x is. ended x (inr is)))

-- what holds of all operations holds of them in the order of a replay
replay_all : (P : Operation → Type 0) (script : ScriptParts) → ByRecursion P (all_operations script) → ByRecursion P (replay_operations script)
replay_all P script all =
    let os : List Operation = all_operations script in
    each_flat P (with_batch os) (filter (λ (o : Operation). not (is_batched o.event)) os)
    (each_in (λ (o : Operation). ByRecursion P (with_batch os o)) (filter (λ (o : Operation). not (is_batched o.event)) os)
    (λ last is.
    each_append P (filter (is_in_batch os last) os) (last ∷ [])
    (each_in P (filter (is_in_batch os last) os) (λ o there. at_in P o os all (in_filter (is_in_batch os last) o os there).0))
    (at_in P last os all (in_filter (λ (o : Operation). not (is_batched o.event)) last os is).0, tt)))

journal_begins : (format : Format) (world : World) (actor : Actor) (os : List Operation) → Begins actor os → GoesOnWith actor (journal_from format world os)
journal_begins format world actor [] begins = begins
journal_begins format world actor (o ∷ os) begins = begins

journal_unbroken : (format : Format) (world : World) (os : List Operation) → AreUnbroken os → IsUnbroken (journal_from format world os)
journal_unbroken format world [] unbroken = tt
journal_unbroken format world (o ∷ os) unbroken = (
  λ batched. journal_begins format (step format world o.actor o.event).0 o.actor os (unbroken.0 batched),
  journal_unbroken format (step format world o.actor o.event).0 os unbroken.1,
)

-- operations that are allowed, one after another, are answered as the machine answers them
journal_runs : (format : Format) (workers : ℕ) (world : World) (os : List Operation) → ByRecursion (IsAllowed workers) os
    → RunsFrom format workers world (journal_from format world os)
journal_runs format workers world [] allowed = tt
journal_runs format workers world (o ∷ os) allowed =
    (allowed.0, refl, journal_runs format workers (step format world o.actor o.event).0 os allowed.1)

journal_holds : (format : Format) (world : World) (os : List Operation) → map operation_of (journal_from format world os) ≡ os
journal_holds format world [] = refl
journal_holds format world (o ∷ os) = ap (λ others. o ∷ others) (journal_holds format (step format world o.actor o.event).0 os)

pub has_replay : HasReplay
has_replay format script kept =
    let os : List Operation = all_operations script in
    let start : World = opening script.workers script.node in
    record {
      run = record {
        answers =
            journal_runs format script.workers start (replay_operations script)
            (replay_all (IsAllowed script.workers) script (recursion_from_All (IsAllowed script.workers) os (all_allowed script kept)));
        batches =
            journal_unbroken format start (replay_operations script)
            (batches_unbroken os (filter (λ (o : Operation). not (is_batched o.event)) os)
            (λ o is. (in_filter (λ (p : Operation). not (is_batched p.event)) o os is).1));
      };
      order = journal_holds format start (replay_operations script);
    }

-- a run is the journal of its own operations
run_is : (format : Format) (workers : ℕ) (world : World) (journal : List Entry) → RunsFrom format workers world journal
    → journal ≡ journal_from format world (map operation_of journal)
run_is format workers world [] run = refl
run_is format workers world (entry ∷ entries) run =
    let first : entry ≡ entry_of (operation_of entry) (step format world entry.actor entry.event).1 =
    ap (λ (answer : Answer). entry_of (operation_of entry) answer) run.1 in
    let rest : entries ≡ journal_from format (step format world entry.actor entry.event).0 (map operation_of entries) =
    run_is format workers (step format world entry.actor entry.event).0 entries run.2 in
    λ i. first i ∷ rest i

pub one_replay : HasOneReplay
one_replay format script journal replay =
    run_is format script.workers (opening script.workers script.node) journal replay.run.answers
    ∙ ap (λ (os : List Operation). journal_from format (opening script.workers script.node) os) replay.order

-- the operations of deeds are those of their entries
all_deeds_hold : (format : Format) (world : World) (entries : List Entry)
    → map (λ (d : Deed). d.operation) (deeds_from format world entries) ≡ map operation_of entries
all_deeds_hold format world [] = refl
all_deeds_hold format world (entry ∷ entries) =
    ap (λ os. operation_of entry ∷ os) (all_deeds_hold format (step format world entry.actor entry.event).0 entries)

pub deeds_hold : (format : Format) (script : ScriptParts) (journal : List Entry) (actor : Actor)
    → map (λ (d : Deed). d.operation) (deeds_of format script journal actor) ≡ entries_of journal actor
deeds_hold format script journal actor =
    map_filter (λ (d : Deed). d.operation) (λ (o : Operation). actor_same o.actor actor) (deeds_from format (opening script.workers script.node) journal)
    ∙ ap (made_by actor) (all_deeds_hold format (opening script.workers script.node) journal)

-- deeds are done where they are the operations
pub done_whole : (rests : Bool) (deeds : List Deed) → AreDone rests (map (λ (d : Deed). d.operation) deeds) deeds
done_whole rests [] = tt
done_whole rests (deed ∷ deeds) = inl (refl, done_whole deed.rests deeds)

fits_whole : (format : Format) (script : ScriptParts) (journal : List Entry) (actor : Actor) → entries_of journal actor ≡ operations_of script actor
    → Fits format script journal actor
fits_whole One script journal actor e = e
fits_whole Two script journal actor e =
    subst (λ os. AreDone true os (deeds_of Two script journal actor)) (deeds_hold Two script journal actor ∙ e)
    (done_whole true (deeds_of Two script journal actor))

pub holds : HoldsOperations
holds format script journal kept replay actor = ap (made_by actor) replay.order ∙ replay_keeps script kept actor

pub is_run_of : ReplayIsRunOf
is_run_of format script journal kept replay = record {
  run = replay.run;
  fits = λ actor. fits_whole format script journal actor (holds format script journal kept replay actor);
}
