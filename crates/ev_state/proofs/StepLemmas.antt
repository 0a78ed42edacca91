-- Steps of the machine by cases, and what changes of a world leave.
use Rattle.std.proofs.Common.{◌≡◌, Bool, true, false, cond, refl, sym, subst}
use Rattle.ev_types.specs.declared.events.Answer.{Answer}
use Rattle.ev_model.specs.World.{World}
use Rattle.ev_managers.specs.declared.moved.Moved.{Moved}
use Rattle.ev_indexes.proofs.SeenLemmas.{seen-stands}
use Rattle.ev_subscription.specs.Subscriptions.{SubscriptionParts, HasVersions}
use Rattle.ev_state.specs.declared.state.State.{State}
use Rattle.ev_state.specs.States.{Follows, IsStep}

pub where_true : (s : State) (told : Answer) (these : Moved) (before : World) (b : Bool) (x y : World × Answer) → b ≡ true → IsStep s told these before x → IsStep s told these before (cond b x y)
where_true s told these before b x y is steps = subst (λ (t : Bool). IsStep s told these before (cond t x y)) (sym is) steps

pub where_false : (s : State) (told : Answer) (these : Moved) (before : World) (b : Bool) (x y : World × Answer) → b ≡ false → IsStep s told these before y → IsStep s told these before (cond b x y)
where_false s told these before b x y isnt steps = subst (λ (t : Bool). IsStep s told these before (cond t x y)) (sym isnt) steps

-- a stream opens or is lost
pub stream_follows : (s : State) (subscription : SubscriptionParts) (open_now : Bool) (world : World) → Follows s world world
    → HasVersions subscription (record world { stream = open_now }) → Follows (record s { subscription = subscription }) world (record world { stream = open_now })
stream_follows s subscription open_now world follows held =
    let booted = follows.stands.targets in
    record {
      stands = record {
        managers = seen-stands s.managers.core.state world (record world { stream = open_now }) (record { rows = refl; made = refl; arrivals = refl; results = refl }) follows.stands.managers;
        subscription = held;
        targets = record { phase = booted.phase; first_clusters = booted.first_clusters; first_listeners = booted.first_listeners; late_clusters = booted.late_clusters; late_listeners = booted.late_listeners };
      };
      sound = follows.sound;
      later = follows.later;
      heard = follows.heard;
      phase = refl;
    }
