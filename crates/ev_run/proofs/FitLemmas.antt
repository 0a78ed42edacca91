-- What an actor has left, after entries of others and after its own.
use Rattle.std.proofs.Common.{◌≡◌, Bool, true, false, ◌&&◌, inl, inr, List, [], ◌∷◌, ◌++◌, map, filter, refl, ap, sym, ◌∙◌, subst, append_assoc, append-nil}
use Rattle.std.specs.Prelude.{IsTrue}
use Rattle.std.specs.List.{AllByRecursion as ByRecursion}
use Rattle.std.proofs.lemmas.List.Elements.{filter-append}
use Rattle.ev_types.specs.declared.events.Actor.{Actor}
use Rattle.ev_types.specs.declared.events.Entry.{Entry}
use Rattle.ev_types.specs.declared.journals.Format.{Format}
use Rattle.ev_model.specs.World.{World, opening}
use Rattle.ev_model.specs.Step.{step}
use Rattle.ev_model.specs.Runs.{world_after}
use Rattle.ev_model.specs.Operations.{AreDone, Deed, Operation, actor_decides, actor_same, deeds_from, is_settle, operation_of, rests_behind}
use Rattle.ev_model_laws.proofs.DeedLemmas.{ops, rest_after}
use Rattle.ev_actors.specs.Journals.{JournalParts, with_entries, world_now}
use Rattle.ev_commits.specs.Commits.{AreElsewhere, GrowsByOthers, seat_of}
use Rattle.ev_run.specs.Left.{FitsSoFar, deeds_in}

-- of these deeds the actor's
abbrev pub own_deeds : Actor → List Deed → List Deed
own_deeds actor deeds = filter (λ (d : Deed). actor_same d.operation.actor actor) deeds

-- the deeds of entries and of others after them
deeds_append : (format : Format) (world : World) (entries more : List Entry)
    → deeds_from format world (entries ++ more) ≡ deeds_from format world entries ++ deeds_from format (world_after format world entries) more
deeds_append format world [] more = refl
deeds_append format world (entry ∷ entries) more =
    let after : World = (step format world entry.actor entry.event).0 in
    ap (λ (ds : List Deed). record { operation = operation_of entry; rests = rests_behind after (operation_of entry) } ∷ ds)
    (deeds_append format after entries more)

pub deeds_with : (actor : Actor) (before after : JournalParts) (entries : List Entry) → after ≡ with_entries entries before
    → deeds_in after actor ≡ deeds_in before actor ++ own_deeds actor (deeds_from before.format (world_now before) entries)
deeds_with actor before after entries is =
    ap (λ (p : JournalParts). deeds_in p actor) is
    ∙ ap (own_deeds actor) (deeds_append before.format (opening before.workers before.node) before.journal entries)
    ∙ filter-append (λ (d : Deed). actor_same d.operation.actor actor)
    (deeds_from before.format (opening before.workers before.node) before.journal) (deeds_from before.format (world_now before) entries)

pub not_same : (one other : Actor) → (one ≡ other → ⊥) → actor_same one other ≡ false
not_same one other apart = by (actor_same one other) refl
  where
    by : (b : Bool) → actor_same one other ≡ b → actor_same one other ≡ false
    by true is = absurd (apart ((actor_decides one other).0 is))
    by false is = is

-- entries of others are no deeds of the actor
pub none_of_others : (actor : Actor) (format : Format) (world : World) (entries : List Entry) → AreElsewhere (seat_of actor) entries
    → own_deeds actor (deeds_from format world entries) ≡ []
none_of_others actor format world [] others = refl
none_of_others actor format world (entry ∷ entries) others =
    let no : actor_same entry.actor actor ≡ false = not_same entry.actor actor (λ same. others.0 (ap seat_of same)) in
    simp no (none_of_others actor format (step format world entry.actor entry.event).0 entries others.1)

-- where each is the actor's, all are its deeds
pub all_own : (actor : Actor) (format : Format) (world : World) (entries : List Entry) → ByRecursion (λ (e : Entry). e.actor ≡ actor) entries
    → own_deeds actor (deeds_from format world entries) ≡ deeds_from format world entries
all_own actor format world [] own = refl
all_own actor format world (entry ∷ entries) own =
    let yes : actor_same entry.actor actor ≡ true = (actor_decides entry.actor actor).1 own.0 in
    let after : World = (step format world entry.actor entry.event).0 in
    simp yes (ap (λ (ds : List Deed). record { operation = operation_of entry; rests = rests_behind after (operation_of entry) } ∷ ds)
    (all_own actor format after entries own.1))

-- the operations of the deeds are the entries'
pub deeds_ops : (format : Format) (world : World) (entries : List Entry) → ops (deeds_from format world entries) ≡ map operation_of entries
deeds_ops format world [] = refl
deeds_ops format world (entry ∷ entries) =
    ap (λ (os : List Operation). operation_of entry ∷ os) (deeds_ops format (step format world entry.actor entry.event).0 entries)

-- the actor rests after the last of them or not
pub rest_last : (rests : Bool) (format : Format) (world : World) (entries : List Entry) (last : Entry)
    → rest_after rests (deeds_from format world (entries ++ last ∷ [])) ≡ rests_behind (world_after format world (entries ++ last ∷ [])) (operation_of last)
rest_last rests format world [] last = refl
rest_last rests format world (entry ∷ entries) last =
    let after : World = (step format world entry.actor entry.event).0 in
    rest_last (rests_behind after (operation_of entry)) format after entries last

-- entries of others leave the actor's deeds
pub deeds_stay : (actor : Actor) (before after : JournalParts) → GrowsByOthers (seat_of actor) before after → deeds_in after actor ≡ deeds_in before actor
deeds_stay actor before after grows =
    deeds_with actor before after grows.more grows.grown
    ∙ ap (λ (ds : List Deed). deeds_in before actor ++ ds) (none_of_others actor before.format (world_now before) grows.more grows.others)
    ∙ append-nil (deeds_in before actor)

-- and what is left
pub fits_stays : (all : List Operation) (actor : Actor) (rests : Bool) (left : List Operation) (before after : JournalParts)
    → GrowsByOthers (seat_of actor) before after → FitsSoFar all actor rests left before → FitsSoFar all actor rests left after
fits_stays all actor rests left before after grows fits deeds done =
    subst (λ (ds : List Deed). AreDone true all (ds ++ deeds)) (sym (deeds_stay actor before after grows)) (fits deeds done)

done_front : (rests : Bool) (new : List Deed) (left : List Operation) (deeds : List Deed) → AreDone (rest_after rests new) left deeds
    → AreDone rests (ops new ++ left) (new ++ deeds)
done_front rests [] left deeds done = done
done_front rests (deed ∷ new) left deeds done = inl (refl, done_front deed.rests new left deeds done)

-- what was done is no longer left
pub fits_more : (all : List Operation) (actor : Actor) (rests : Bool) (left : List Operation) (before after : JournalParts) (new : List Deed)
    → deeds_in after actor ≡ deeds_in before actor ++ new → FitsSoFar all actor rests (ops new ++ left) before
    → FitsSoFar all actor (rest_after rests new) left after
fits_more all actor rests left before after new is fits deeds done =
    subst (AreDone true all) (sym (ap (λ (ds : List Deed). ds ++ deeds) is ∙ append_assoc (deeds_in before actor) new deeds))
    (fits (new ++ deeds) (done_front rests new left deeds done))

-- a settle may be left out where the actor rests
pub fits_idle : (all : List Operation) (actor : Actor) (rests : Bool) (o : Operation) (left : List Operation) (parts : JournalParts)
    → is_settle o.event ≡ true → rests ≡ true → FitsSoFar all actor rests (o ∷ left) parts → FitsSoFar all actor rests left parts
fits_idle all actor rests o left parts settle resting fits deeds done = fits deeds (by deeds done)
  where
    passed : IsTrue (is_settle o.event && rests)
    passed = ap (λ b. b && rests) settle ∙ resting

    by : (deeds : List Deed) → AreDone rests left deeds → AreDone rests (o ∷ left) deeds
    by [] done = (passed, done)
    by (deed ∷ deeds) done = inr (passed, done)

-- with nothing left all is done
pub fits_ended : (all : List Operation) (actor : Actor) (rests : Bool) (parts : JournalParts) → FitsSoFar all actor rests [] parts
    → AreDone true all (deeds_in parts actor)
fits_ended all actor rests parts fits = subst (AreDone true all) (append-nil (deeds_in parts actor)) (fits [] tt)
