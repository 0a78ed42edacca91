-- A journal and one entry more: what is left of each actor's operations, and which may come next, by its deeds.
use Rattle.std.proofs.Common.{◌≡◌, inl, inr, ◌+◌, Bool, true, false, not, ◌&&◌, if◌then◌else◌, nat_lt, List, [], ◌∷◌, ◌++◌, map, filter, length, take, Option, Some, None, refl, ap, sym, ◌∙◌, subst}
use Rattle.std.specs.List.{AllByRecursion as ByRecursion, last_or, list_any}
use Rattle.std.specs.Cmp.{first_so, second_so}
use Rattle.std.proofs.lemmas.List.{map-append}
use Rattle.std.proofs.lemmas.List.Elements.{filter-append}
use Rattle.std.proofs.lemmas.Bool.{both_ways}
use Rattle.std.proofs.Math.Bool.{and-false}
use Rattle.ev_types.specs.Scripts.{ScriptParts}
use Rattle.ev_types.specs.declared.events.Actor.{Actor}
use Rattle.ev_types.specs.declared.events.Entry.{Entry}
use Rattle.ev_types.specs.declared.journals.Format.{Format}
use Rattle.ev_types.specs.declared.journals.Format.TheVariants.{One, Two}
use Rattle.ev_model.specs.World.{World, opening}
use Rattle.ev_model.specs.Step.{step}
use Rattle.ev_model.specs.Runs.{world_after, is_batched}
use Rattle.ev_model.specs.Operations.{Operation, Deed, Fits, AreDone, actor_same, is_settle, is_held_by, rests_behind, operations_of, operation_of, entries_of, deeds_from, deeds_of}
use Rattle.ev_model.specs.Finding.{operations_left, rests_by, is_resting, may_pass, passed, next_operations, is_unfinished}
use Rattle.ev_model_laws.proofs.OperationLists.{at_in, each_in, in_filter}
use Rattle.ev_model_laws.proofs.ScriptOperations.{ends_batched}
use Rattle.ev_model_laws.proofs.BatchLemmas.{settle_not_batched, false_if}
use Rattle.ev_model_laws.proofs.ReplayLemmas.{deeds_hold, done_whole}
use Rattle.ev_model_laws.proofs.DeedLemmas.{ops, rest_after, left_by, passed_by, next_by}

-- whether the format lets settles be left out while the actor rests
abbrev pub eased : Format → Bool → Bool
eased One rests = false
eased Two rests = rests

abbrev pub deed_by : Format → Deed → Deed
deed_by format deed = record { operation = deed.operation; rests = eased format deed.rests }

-- the deed of an entry in this world
abbrev pub deed_at : Format → World → Entry → Deed
deed_at format world entry =
    deed_by format (record { operation = operation_of entry; rests = rests_behind (step format world entry.actor entry.event).0 (operation_of entry) })

-- the deeds of an actor from this world on, as the format takes them
abbrev pub marks : Format → World → List Entry → Actor → List Deed
marks format world entries actor = map (deed_by format) (filter (λ (d : Deed). actor_same d.operation.actor actor) (deeds_from format world entries))

abbrev pub start : ScriptParts → World
start script = opening script.workers script.node

-- whether the actor rests after the journal, and what is left of its operations
abbrev pub rests_at : Format → ScriptParts → List Entry → Actor → Bool
rests_at format script journal actor = rest_after (eased format true) (marks format (start script) journal actor)

abbrev pub left_at : Format → ScriptParts → List Entry → Actor → List Operation
left_at format script journal actor = left_by (operations_of script actor) (ops (marks format (start script) journal actor))

deeds_append : (format : Format) (world : World) (before more : List Entry)
    → deeds_from format world (before ++ more) ≡ deeds_from format world before ++ deeds_from format (world_after format world before) more
deeds_append format world [] more = refl
deeds_append format world (entry ∷ before) more =
    ap (λ ds. record { operation = operation_of entry; rests = rests_behind (step format world entry.actor entry.event).0 (operation_of entry) } ∷ ds)
    (deeds_append format (step format world entry.actor entry.event).0 before more)

pub marks_append : (format : Format) (world : World) (before more : List Entry) (actor : Actor)
    → marks format world (before ++ more) actor ≡ marks format world before actor ++ marks format (world_after format world before) more actor
marks_append format world before more actor =
    ap (λ ds. map (deed_by format) (filter (λ (d : Deed). actor_same d.operation.actor actor) ds)) (deeds_append format world before more)
    ∙ ap (map (deed_by format))
    (filter-append (λ (d : Deed). actor_same d.operation.actor actor) (deeds_from format world before) (deeds_from format (world_after format world before) more))
    ∙ map-append (deed_by format) (filter (λ (d : Deed). actor_same d.operation.actor actor) (deeds_from format world before))
    (filter (λ (d : Deed). actor_same d.operation.actor actor) (deeds_from format (world_after format world before) more))

-- the deed of an actor's entry, and of another's
pub marks_own : (format : Format) (world : World) (entry : Entry) (entries : List Entry) (actor : Actor) → actor_same entry.actor actor ≡ true
    → marks format world (entry ∷ entries) actor ≡ deed_at format world entry ∷ marks format (step format world entry.actor entry.event).0 entries actor
marks_own format world entry entries actor h =
    ap
    (λ b.
    map (deed_by format)
    (if b then record { operation = operation_of entry; rests = rests_behind (step format world entry.actor entry.event).0 (operation_of entry) } ∷ filter (λ (d : Deed). actor_same d.operation.actor actor) (deeds_from format (step format world entry.actor entry.event).0 entries) else filter (λ (d : Deed). actor_same d.operation.actor actor) (deeds_from format (step format world entry.actor entry.event).0 entries)))
    h

pub marks_other : (format : Format) (world : World) (entry : Entry) (entries : List Entry) (actor : Actor) → actor_same entry.actor actor ≡ false
    → marks format world (entry ∷ entries) actor ≡ marks format (step format world entry.actor entry.event).0 entries actor
marks_other format world entry entries actor h =
    ap
    (λ b.
    map (deed_by format)
    (if b then record { operation = operation_of entry; rests = rests_behind (step format world entry.actor entry.event).0 (operation_of entry) } ∷ filter (λ (d : Deed). actor_same d.operation.actor actor) (deeds_from format (step format world entry.actor entry.event).0 entries) else filter (λ (d : Deed). actor_same d.operation.actor actor) (deeds_from format (step format world entry.actor entry.event).0 entries)))
    h

pub rests_is : (format : Format) (before : Option Deed) (deeds : List Deed)
    → eased format (rests_by (last_or before deeds)) ≡ rest_after (eased format (rests_by before)) (map (deed_by format) deeds)
rests_is format before [] = refl
rests_is format before (deed ∷ deeds) = rests_is format (Some deed) deeds

ops_by : (format : Format) (deeds : List Deed) → ops (map (deed_by format) deeds) ≡ ops deeds
ops_by format [] = refl
ops_by format (deed ∷ deeds) = ap (λ os. deed.operation ∷ os) (ops_by format deeds)

pub ops_marks : (format : Format) (script : ScriptParts) (journal : List Entry) (actor : Actor)
    → ops (marks format (start script) journal actor) ≡ entries_of journal actor
ops_marks format script journal actor = ops_by format (deeds_of format script journal actor) ∙ deeds_hold format script journal actor

passes_is : (format : Format) (resting : Bool) (os : List Operation) → may_pass format resting os ≡ passed_by (eased format resting) os
passes_is One resting os = refl
passes_is Two resting os = refl

left_is : (format : Format) (script : ScriptParts) (journal : List Entry) (actor : Actor) → operations_left script journal actor ≡ left_at format script journal actor
left_is format script journal actor = ap (left_by (operations_of script actor)) (sym (ops_marks format script journal actor))

passed_is : (format : Format) (script : ScriptParts) (journal : List Entry) (actor : Actor)
    → passed format script journal actor ≡ passed_by (rests_at format script journal actor) (left_at format script journal actor)
passed_is format script journal actor =
    passes_is format (is_resting format script journal actor) (operations_left script journal actor)
    ∙ ap (λ b. passed_by b (operations_left script journal actor)) (rests_is format None (deeds_of format script journal actor))
    ∙ ap (passed_by (rests_at format script journal actor)) (left_is format script journal actor)

-- which operations may come next, by the deeds
pub next_is : (format : Format) (script : ScriptParts) (journal : List Entry) (actor : Actor)
    → next_operations format script journal actor ≡ next_by (rests_at format script journal actor) (left_at format script journal actor)
next_is format script journal actor =
    ap (λ n. take (n + 1) (operations_left script journal actor)) (passed_is format script journal actor)
    ∙ ap (take (passed_by (rests_at format script journal actor) (left_at format script journal actor) + 1)) (left_is format script journal actor)

-- whether an operation is missing, by the deeds
pub unfinished_is : (format : Format) (script : ScriptParts) (journal : List Entry) (actor : Actor)
    → is_unfinished format script journal actor
    ≡ nat_lt (passed_by (rests_at format script journal actor) (left_at format script journal actor)) (length (left_at format script journal actor))
unfinished_is format script journal actor =
    ap (λ n. nat_lt n (length (operations_left script journal actor))) (passed_is format script journal actor)
    ∙ ap (λ os. nat_lt (passed_by (rests_at format script journal actor) (left_at format script journal actor)) (length os)) (left_is format script journal actor)

-- where nothing may be left out, deeds are done where they are the operations
exactly : (deeds : List Deed) (os : List Operation) → AreDone false os (map (deed_by One) deeds) → ops (map (deed_by One) deeds) ≡ os
exactly [] [] done = refl
exactly (deed ∷ deeds) [] done = absurd done
exactly [] (o ∷ os) done = absurd (both_ways (is_settle o.event && false) (and-false (is_settle o.event)) done.0)
exactly (deed ∷ deeds) (o ∷ os) (inl h) = λ i. h.0 i ∷ exactly deeds os h.1 i
exactly (deed ∷ deeds) (o ∷ os) (inr h) = absurd (both_ways (is_settle o.event && false) (and-false (is_settle o.event)) h.0)

as_they_are : (deeds : List Deed) → map (deed_by Two) deeds ≡ deeds
as_they_are [] = refl
as_they_are (deed ∷ deeds) = ap (λ ds. deed ∷ ds) (as_they_are deeds)

-- a journal holds an actor's operations where its deeds are done
pub fits_done : (format : Format) (script : ScriptParts) (journal : List Entry) (actor : Actor) → Fits format script journal actor
    → AreDone (eased format true) (operations_of script actor) (marks format (start script) journal actor)
fits_done One script journal actor fits =
    subst (λ os. AreDone false os (marks One (start script) journal actor)) (ops_marks One script journal actor ∙ fits)
    (done_whole false (marks One (start script) journal actor))
fits_done Two script journal actor fits =
    subst (AreDone true (operations_of script actor)) (sym (as_they_are (deeds_of Two script journal actor))) fits

pub done_fits : (format : Format) (script : ScriptParts) (journal : List Entry) (actor : Actor)
    → AreDone (eased format true) (operations_of script actor) (marks format (start script) journal actor) → Fits format script journal actor
done_fits One script journal actor done =
    sym (ops_marks One script journal actor) ∙ exactly (deeds_of One script journal actor) (operations_of script actor) done
done_fits Two script journal actor done = subst (AreDone true (operations_of script actor)) (as_they_are (deeds_of Two script journal actor)) done

-- an accept or close leaves its actor at no rest
abbrev IsBusy : Deed → Type 0
IsBusy deed = is_batched deed.operation.event ≡ true → deed.rests ≡ false

eased_no : (format : Format) → eased format false ≡ false
eased_no One = refl
eased_no Two = refl

not_settle : (o : Operation) → is_batched o.event ≡ true → is_settle o.event ≡ false
not_settle o h = false_if (is_settle o.event) (λ s. both_ways (is_batched o.event) (settle_not_batched o.event s) h)

deeds_busy : (format : Format) (world : World) (entries : List Entry) → ByRecursion IsBusy (deeds_from format world entries)
deeds_busy format world [] = tt
deeds_busy format world (entry ∷ entries) = (
  λ h. ap (λ b. b && not (list_any (is_held_by entry.actor) (step format world entry.actor entry.event).0.opened)) (not_settle (operation_of entry) h),
  deeds_busy format (step format world entry.actor entry.event).0 entries,
)

busy_by : (format : Format) (deeds : List Deed) → ByRecursion IsBusy deeds → ByRecursion IsBusy (map (deed_by format) deeds)
busy_by format [] all = tt
busy_by format (deed ∷ deeds) all = (λ h. ap (eased format) (all.0 h) ∙ eased_no format, busy_by format deeds all.1)

marks_busy : (format : Format) (world : World) (entries : List Entry) (actor : Actor) → ByRecursion IsBusy (marks format world entries actor)
marks_busy format world entries actor =
    busy_by format (filter (λ (d : Deed). actor_same d.operation.actor actor) (deeds_from format world entries))
    (each_in IsBusy (filter (λ (d : Deed). actor_same d.operation.actor actor) (deeds_from format world entries))
    (λ d is. at_in IsBusy d (deeds_from format world entries) (deeds_busy format world entries) (in_filter (λ (e : Deed). actor_same e.operation.actor actor) d (deeds_from format world entries) is).0))

-- deeds that end with an accept or close are done of operations that end so
ends_done : (rests batched : Bool) (os : List Operation) (deeds : List Deed) → AreDone rests os deeds → ByRecursion IsBusy deeds
    → (batched ≡ true → rests ≡ false) → ends_batched batched (ops deeds) ≡ true → ends_batched batched os ≡ true
ends_done rests batched [] [] done busy so ends = ends
ends_done rests batched [] (deed ∷ deeds) done busy so ends = absurd done
ends_done rests batched (o ∷ os) [] done busy so ends =
    absurd (both_ways rests (so ends) (second_so (is_settle o.event) rests done.0))
ends_done rests batched (o ∷ os) (deed ∷ deeds) (inl h) busy so ends =
    ends_done deed.rests (is_batched o.event) os deeds h.1 busy.1
    (λ is. busy.0 (ap (λ (p : Operation). is_batched p.event) h.0 ∙ is))
    (ap (λ (p : Operation). ends_batched (is_batched p.event) (ops deeds)) (sym h.0) ∙ ends)
ends_done rests batched (o ∷ os) (deed ∷ deeds) (inr h) busy so ends =
    ends_done rests (is_batched o.event) os (deed ∷ deeds) h.1 busy
    (λ is. absurd (both_ways (is_batched o.event) (settle_not_batched o.event (first_so (is_settle o.event) rests h.0)) is))
    ends

pub ends_as : (format : Format) (script : ScriptParts) (journal : List Entry) (actor : Actor)
    → AreDone (eased format true) (operations_of script actor) (marks format (start script) journal actor)
    → ends_batched false (entries_of journal actor) ≡ true → ends_batched false (operations_of script actor) ≡ true
ends_as format script journal actor done ends =
    ends_done (eased format true) false (operations_of script actor) (marks format (start script) journal actor) done
    (marks_busy format (start script) journal actor) (λ is. absurd (both_ways false refl is))
    (ap (ends_batched false) (ops_marks format script journal actor) ∙ ends)
