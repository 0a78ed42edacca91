-- What workers see and do is changed by publications and by workers alone.
use Rattle.std.proofs.Common.{◌≡◌, ℕ, List, true, refl}
use Rattle.ev_types.specs.declared.events.Actor.{Actor}
use Rattle.ev_types.specs.declared.events.Event.{Event}
use Rattle.ev_types.specs.declared.journals.Format.{Format}
use Rattle.ev_model.specs.World.{World}
use Rattle.ev_model.specs.Step.{step}
use Rattle.ev_model_laws.proofs.KeepLemmas.{Seen, seen_of, is_for_managers, is_moving, KeepsTidied, moved-keeps, managed-keeps}

-- the same pictures, versions that are held, and connections
pub record IsSameSeen (old seen : Seen) : Type 0 where
  pub pictures : seen.pictures ≡ old.pictures
  pub held : seen.held ≡ old.held
  pub opened : seen.opened ≡ old.opened

keeps_seen : (old : Seen) → KeepsTidied (λ rows made phase versions seen. IsSameSeen old seen) (λ world. IsSameSeen old (seen_of world))
keeps_seen old = record {
  removed = λ goes rows made phase versions seen same. same;
  added = λ kind name content kept rows made phase versions seen same. same;
  version_added = λ new rows made phase versions seen same. same;
  version_renewed = λ kind name rows made phase versions seen same. same;
  versions_left = λ test rows made phase versions seen same. same;
  untidied = λ world same. same;
  tidied = λ world same. same;
}

-- no event for the managers changes a picture, a version that is held, or a connection
pub same_seen : (format : Format) (world : World) (actor : Actor) (event : Event) → is_for_managers event ≡ true
    → IsSameSeen (seen_of world) (seen_of (step format world actor event).0)
same_seen format world actor event is =
    managed-keeps _ _ (keeps_seen (seen_of world))
    (λ numbers other same. record { pictures = same.pictures; held = same.held; opened = same.opened })
    format world actor event is (record { pictures = refl; held = refl; opened = refl })

keeps_expired : (old : List ℕ) → KeepsTidied (λ rows made phase versions seen. seen.expired ≡ old) (λ world. world.expired ≡ old)
keeps_expired old = record {
  removed = λ goes rows made phase versions seen same. same;
  added = λ kind name content kept rows made phase versions seen same. same;
  version_added = λ new rows made phase versions seen same. same;
  version_renewed = λ kind name rows made phase versions seen same. same;
  versions_left = λ test rows made phase versions seen same. same;
  untidied = λ world same. same;
  tidied = λ world same. same;
}

-- of these events a drain timeout alone marks listeners as expired
pub same_expired : (format : Format) (world : World) (actor : Actor) (event : Event) → is_moving event ≡ true
    → (step format world actor event).0.expired ≡ world.expired
same_expired format world actor event is = moved-keeps _ _ (keeps_expired world.expired) format world actor event is refl
