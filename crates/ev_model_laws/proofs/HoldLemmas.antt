-- The main side never settles, so a run leaves nothing of it out.
use Rattle.std.proofs.Common.{◌≡◌, inl, inr, ℕ, Bool, true, false, List, [], ◌∷◌, refl, sym, ap, ◌∙◌, subst}
use Rattle.std.specs.Cmp.{first_so}
use Rattle.std.specs.List.{AllByRecursion as ByRecursion}
use Rattle.std.proofs.lemmas.Bool.{both_ways}
use Rattle.ev_types.specs.Events.{IsMainSide, IsWorkerOf, MayMake}
use Rattle.ev_types.specs.Scripts.{IsScript, ScriptParts}
use Rattle.ev_types.specs.declared.events.Actor.{Actor}
use Rattle.ev_types.specs.declared.events.Actor.TheVariants.{Stream, Health as health_checker, Timer, Main, Worker}
use Rattle.ev_types.specs.declared.events.Entry.{Entry}
use Rattle.ev_types.specs.declared.events.Event.{Event}
use Rattle.ev_types.specs.declared.events.Event.TheVariants.{Connect, Disconnect, Response, Health, FetchTimeout, DrainTimeout, TtlExpired, Publish, Reap, Accept, Close, Settle}
use Rattle.ev_types.specs.declared.journals.Format.{Format}
use Rattle.ev_types.specs.declared.journals.Format.TheVariants.{One, Two}
use Rattle.ev_model.specs.Operations.{Operation, Deed, AreDone, Fits, IsRunOf, actor_same, actor_decides, all_operations, deeds_of, entries_of, is_settle, operations_of}
use Rattle.ev_model_laws.proofs.DeedLemmas.{ops}
use Rattle.ev_model_laws.proofs.OperationLists.{IsIn, at_in, each_in, in_filter}
use Rattle.ev_model_laws.proofs.ReplayLemmas.{deeds_hold}
use Rattle.ev_model_laws.proofs.ScriptOperations.{IsAllowed, all_allowed}
use Rattle.std.proofs.lemmas.List.Elements.{recursion_from_All}

no_worker : (workers : ℕ) (actor : Actor) → IsMainSide actor → IsWorkerOf workers actor → ⊥
no_worker workers Stream main own = own
no_worker workers health_checker main own = own
no_worker workers Timer main own = own
no_worker workers Main main own = own
no_worker workers (Worker worker) main own = main

-- who isn't a worker doesn't settle
never_settles : (workers : ℕ) (actor : Actor) (event : Event) → IsMainSide actor → MayMake workers actor event → is_settle event ≡ false
never_settles workers actor Settle main may = absurd (no_worker workers actor main may)
never_settles workers actor Connect main may = refl
never_settles workers actor Disconnect main may = refl
never_settles workers actor (Response response) main may = refl
never_settles workers actor (Health cluster host healthy) main may = refl
never_settles workers actor (FetchTimeout timeout) main may = refl
never_settles workers actor (DrainTimeout listener) main may = refl
never_settles workers actor (TtlExpired kind name) main may = refl
never_settles workers actor Publish main may = refl
never_settles workers actor Reap main may = refl
never_settles workers actor (Accept ask) main may = refl
never_settles workers actor (Close connection) main may = refl

none_settles : (script : ScriptParts) (actor : Actor) → IsScript script → IsMainSide actor
    → ByRecursion (λ (o : Operation). is_settle o.event ≡ false) (operations_of script actor)
none_settles script actor kept main =
    each_in (λ (o : Operation). is_settle o.event ≡ false) (operations_of script actor)
    (λ o is.
    let parts : IsIn o (all_operations script) × (actor_same o.actor actor ≡ true) =
    in_filter (λ (p : Operation). actor_same p.actor actor) o (all_operations script) is in
    let by : o.actor ≡ actor = (actor_decides o.actor actor).0 parts.1 in
    let may : MayMake script.workers o.actor o.event =
    at_in (IsAllowed script.workers) o (all_operations script)
    (recursion_from_All (IsAllowed script.workers) (all_operations script) (all_allowed script kept)) parts.0 in
    never_settles script.workers o.actor o.event (subst IsMainSide (sym by) main) may)

-- operations of which none is a settle are all done
all_done : (rests : Bool) (os : List Operation) (deeds : List Deed) → ByRecursion (λ (o : Operation). is_settle o.event ≡ false) os
    → AreDone rests os deeds → ops deeds ≡ os
all_done rests [] [] none done = refl
all_done rests [] (deed ∷ deeds) none done = absurd done
all_done rests (o ∷ os) [] none done = absurd (both_ways (is_settle o.event) none.0 (first_so (is_settle o.event) rests done.0))
all_done rests (o ∷ os) (deed ∷ deeds) none (inl here) =
    ap (λ first. first ∷ ops deeds) here.0 ∙ ap (λ rest. o ∷ rest) (all_done deed.rests os deeds none.1 here.1)
all_done rests (o ∷ os) (deed ∷ deeds) none (inr passed) =
    absurd (both_ways (is_settle o.event) none.0 (first_so (is_settle o.event) rests passed.0))

fits_holds : (format : Format) (script : ScriptParts) (journal : List Entry) (actor : Actor) → IsScript script → IsMainSide actor
    → Fits format script journal actor → entries_of journal actor ≡ operations_of script actor
fits_holds One script journal actor kept main fits = fits
fits_holds Two script journal actor kept main fits =
    sym (deeds_hold Two script journal actor)
    ∙ all_done true (operations_of script actor) (deeds_of Two script journal actor) (none_settles script actor kept main) fits

pub side_holds : (format : Format) (script : ScriptParts) (journal : List Entry) (actor : Actor)
    → IsScript script → IsMainSide actor → IsRunOf format script journal → entries_of journal actor ≡ operations_of script actor
side_holds format script journal actor kept main run = fits_holds format script journal actor kept main (run.fits actor)
