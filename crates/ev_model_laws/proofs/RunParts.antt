-- The parts that every event keeps hold after any first entries of a run.
use Rattle.std.proofs.Common.{◌≡◌, ℕ, ◌+◌, ◌<◌, ◌≤◌, ◌⊎◌, inl, inr, zero, suc, get_or, length, take, Some, None, sym, ap, ◌∙◌, subst, subst₂, add-one, arith}
use Rattle.std.specs.Prelude.{slice_get}
use Rattle.std.proofs.lemmas.Bool.{false≢true, both_ways}
use Rattle.std.proofs.lemmas.List.{length-replicate, get_or-replicate}
use Rattle.std.proofs.lemmas.Option.{slice_get_cases}
use Rattle.ev_types.specs.Events.{MayMake}
use Rattle.ev_types.specs.declared.events.Actor.{Actor}
use Rattle.ev_types.specs.declared.events.Actor.TheVariants.{Stream, Health as health_checker, Timer, Main, Worker}
use Rattle.ev_types.specs.declared.events.Event.{Event}
use Rattle.ev_types.specs.declared.events.Event.TheVariants.{Connect, Disconnect, Response, Health, FetchTimeout, DrainTimeout, TtlExpired, Publish, Reap, Accept, Close, Settle}
use Rattle.ev_types.specs.declared.events.Entry.{Entry}
use Rattle.ev_model.specs.World.{World, opening}
use Rattle.ev_model.specs.Step.{step}
use Rattle.ev_model.specs.Laws.{Told, world_told, IsEntryAt}
use Rattle.ev_model.proofs.RunLemmas.{length-held}
use Rattle.ev_model_laws.specs.Kept.{numbers_gone, UsesServed, HidesUnserved, HoldsPublished, NothingIsDue, DrawnOnce, HasParts, AreMade, ComesByEntries, KeepsWatched, OpensOnce}
use Rattle.ev_model_laws.proofs.PlaceLemmas.{IsAnswered, Runs, entry_answered, world_next, gone_next}
use Rattle.ev_model_laws.proofs.HeldLemmas.{opens_held, step-held}
use Rattle.ev_model_laws.proofs.SettledLemmas.{settled_next}
use Rattle.ev_model_laws.proofs.OpenedLemmas.{open_next}
use Rattle.ev_model_laws.proofs.ExpiredLemmas.{expired_next}
use Rattle.ev_model_laws.proofs.PromotionLemmas.{opens_due, step-due}
use Rattle.ev_model_laws.proofs.MemberLemmas.{IsKnown, opens_uses, step-uses}
use Rattle.ev_model_laws.proofs.DrawnLemmas.{opens_drawn, step-drawn}
use Rattle.ev_model_laws.proofs.HiddenLemmas.{opens_hidden, step-hidden}
use Rattle.ev_model_laws.proofs.MadeLemmas.{opens_made, made_next}
use Rattle.ev_model_laws.proofs.CameLemmas.{opens_come, come_next}
use Rattle.ev_model_laws.proofs.ServesLemmas.{serves_next}
use Rattle.ev_model_laws.proofs.ShownLemmas.{opens_shows, shows_next}
use Rattle.ev_model.specs.Picture.{is_shown}
use Rattle.ev_model.specs.Dead.{shown_at}
use Rattle.ev_model_laws.proofs.WatchedLemmas.{opens_watched, step-watched}
use Rattle.ev_model_laws.proofs.OneANameLemmas.{stays_single}
use Rattle.ev_model_laws.proofs.SeenMadeLemmas.{opens_seen_made, seen_made_next}
use Rattle.ev_model_laws.proofs.OpenOnceLemmas.{opens_opens_once, step-opens_once}

-- who may make an event is no worker, or one of this many
pub may_known : (workers : ℕ) (actor : Actor) (event : Event) → MayMake workers actor event → IsKnown workers actor
may_known workers Stream event may = tt
may_known workers health_checker event may = tt
may_known workers Timer event may = tt
may_known workers Main event may = tt
may_known workers (Worker worker) Connect may = absurd may
may_known workers (Worker worker) Disconnect may = absurd may
may_known workers (Worker worker) (Response response) may = absurd may
may_known workers (Worker worker) (Health cluster host healthy) may = absurd may
may_known workers (Worker worker) (FetchTimeout timeout) may = absurd may
may_known workers (Worker worker) (DrainTimeout listener) may = absurd may
may_known workers (Worker worker) (TtlExpired kind name) may = absurd may
may_known workers (Worker worker) Publish may = absurd may
may_known workers (Worker worker) Reap may = absurd may
may_known workers (Worker worker) (Accept ask) may = may
may_known workers (Worker worker) (Close connection) may = may
may_known workers (Worker worker) Settle may = may

-- an entry keeps the parts
parts_next : (told : Told) (k : ℕ) (entry : Entry) → Runs told → IsEntryAt told k entry → HasParts told k → HasParts told (k + 1)
parts_next told k entry run there parts =
    let world : World = world_told told k in
    let next : world_told told (k + 1) ≡ (step told.format world entry.actor entry.event).0 = world_next told k entry there in
    let answered : IsAnswered told k entry = entry_answered told k entry run there in
    let made : AreMade (world_told told (k + 1)) (take (k + 1) told.journal) = made_next told k entry there answered parts.made in
    let come : ComesByEntries (world_told told (k + 1)) (take (k + 1) told.journal) =
    come_next told k entry there answered parts.made parts.come in
    let known : IsKnown (length world.held) entry.actor =
    subst (λ n. IsKnown n entry.actor) (sym parts.workers) (may_known told.workers entry.actor entry.event answered.may) in
    record {
      workers = ap (λ (w : World). length w.held) next ∙ length-held told.format world entry.actor entry.event ∙ parts.workers;
      uses = subst UsesServed (sym next) (step-uses told.format world entry.actor entry.event known parts.uses);
      hides = subst HidesUnserved (sym next)
          (step-hidden told.format world entry.actor entry.event (numbers_gone (take k told.journal)) parts.drawn parts.uses parts.hides);
      holds = subst HoldsPublished (sym next) (step-held told.format world entry.actor entry.event parts.holds);
      settled = settled_next told k entry there answered parts.workers parts.settled;
      stays = open_next told k entry there answered parts.stays;
      expires = expired_next told k entry there answered parts.expires;
      due = subst NothingIsDue (sym next) (step-due told.format world entry.actor entry.event parts.due);
      drawn = subst₂ DrawnOnce (sym next) (sym (gone_next told k entry there answered))
          (step-drawn told.format world entry.actor entry.event (numbers_gone (take k told.journal)) parts.drawn);
      made = made;
      come = come;
      watched = subst KeepsWatched (sym next) (step-watched told.format world entry.actor entry.event parts.watched);
      serves = serves_next told k entry there parts.serves made come;
      shows = shows_next told k entry there answered parts.serves parts.shows;
      sees = seen_made_next told k entry there (stays_single.runs told.format told.workers told.node (take k told.journal)) parts.made parts.sees;
      once = subst OpensOnce (sym next) (step-opens_once told.format world entry.actor entry.event parts.once);
    }

next_by : (told : Told) (k : ℕ) → Runs told → suc k ≤ length told.journal
    → ((entry : Entry) × (k < length told.journal) × (slice_get told.journal k ≡ Some entry) × (get_or told.journal k entry ≡ entry))
    ⊎ ((length told.journal ≤ k) × (slice_get told.journal k ≡ None))
    → HasParts told k → HasParts told (suc k)
next_by told k run le (inl found) parts = subst (HasParts told) (add-one k) (parts_next told k found.0 run found.2 parts)
next_by told k run le (inr past) parts = absurd (omega (arith, past.0))

-- a run has the parts after any first entries
pub parts_kept : (told : Told) → Runs told → (k : ℕ) → k ≤ length told.journal → HasParts told k
parts_kept told run zero le = record {
  workers = length-replicate told.workers 0;
  uses = opens_uses told.workers told.node;
  hides = opens_hidden told.workers told.node;
  holds = opens_held told.workers told.node;
  settled = λ worker lt. get_or-replicate told.workers worker 0 0 lt;
  stays = λ j actor number connection lt opened. absurd (omega arith);
  expires = λ number h. absurd (false≢true h);
  due = opens_due told.workers told.node;
  drawn = opens_drawn told.workers told.node;
  made = opens_made told.workers told.node;
  come = opens_come told.workers told.node;
  watched = opens_watched told.workers told.node;
  serves = λ row there active. absurd (omega (arith, there.1));
  shows = λ version number shown. absurd (both_ways (is_shown number (shown_at (opening told.workers told.node) version)) (opens_shows told.workers told.node version number) shown);
  sees = opens_seen_made told.workers told.node;
  once = opens_opens_once told.workers told.node;
}
parts_kept told run (suc k) le =
    next_by told k run le (slice_get_cases told.journal k).1 (parts_kept told run k (omega arith))
