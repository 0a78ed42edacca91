-- Each worker holds the version of a picture that was published.
use Rattle.std.proofs.Common.{◌≡◌, ℕ, zero, suc, ◌<◌, true, List, [], ◌∷◌, ◌++◌, length, replicate, sym, subst₂, length-append, arith}
use Rattle.std.specs.Prelude.{slice_index_or, slice_set}
use Rattle.ev_types.specs.declared.events.Actor.{Actor}
use Rattle.ev_types.specs.declared.events.Event.{Event}
use Rattle.ev_types.specs.declared.journals.Format.{Format}
use Rattle.ev_model.specs.declared.pictures.Shown.{Shown}
use Rattle.ev_model.specs.World.{World, opening, last_version}
use Rattle.ev_model.specs.Picture.{shown_of}
use Rattle.ev_model.specs.Connections.{settle}
use Rattle.ev_model.specs.Step.{step}
use Rattle.ev_model_laws.specs.Kept.{HoldsPublished}
use Rattle.ev_model_laws.proofs.KeepLemmas.{seen_of, is_for_managers, either, step-each}
use Rattle.ev_model_laws.proofs.SeenLemmas.{IsSameSeen, same_seen}

-- what holds of the new number and of all others holds of each where one number of a list is set
set_each : (P : ℕ → Type 0) (held : List ℕ) (place value other : ℕ) → P value → ((n : ℕ) → P (slice_index_or held n 0))
    → P (slice_index_or (slice_set held place value) other 0)
set_each P [] place value other new each = each other
set_each P (one ∷ held) zero value zero new each = new
set_each P (one ∷ held) zero value (suc n) new each = each (suc n)
set_each P (one ∷ held) (suc place) value zero new each = each zero
set_each P (one ∷ held) (suc place) value (suc n) new each = set_each P held place value n new (λ m. each (suc m))

replicated_within : (workers other : ℕ) → slice_index_or (replicate workers 0) other 0 < 1
replicated_within zero other = omega arith
replicated_within (suc workers) zero = omega arith
replicated_within (suc workers) (suc other) = replicated_within workers other

managed_held : (format : Format) (world : World) (actor : Actor) (event : Event) → is_for_managers event ≡ true
    → HoldsPublished world → HoldsPublished (step format world actor event).0
managed_held format world actor event is within worker =
    let same : IsSameSeen (seen_of world) (seen_of (step format world actor event).0) = same_seen format world actor event is in
    subst₂ (λ held (pictures : List Shown). slice_index_or held worker 0 < length pictures) (sym same.held) (sym same.pictures) (within worker)

published_held : (world : World) (shown : Shown) → HoldsPublished world → HoldsPublished (record world { pictures = world.pictures ++ shown ∷ [] })
published_held world shown within worker = omega (arith, within worker, length-append world.pictures (shown ∷ []))

settled_held : (worker : ℕ) (world : World) → HoldsPublished world → HoldsPublished (settle worker world).0
settled_held worker world within other =
    set_each (λ version. version < length world.pictures) world.held worker (last_version world) other (omega (arith, within other)) within

pub opens_held : (workers : ℕ) (node : List ℕ) → HoldsPublished (opening workers node)
opens_held workers node worker = replicated_within workers worker

pub step-held : (format : Format) (world : World) (actor : Actor) (event : Event)
    → HoldsPublished world → HoldsPublished (step format world actor event).0
step-held format world actor event within = step-each HoldsPublished format world actor event within (record {
  managed = λ event is. managed_held format world actor event is within;
  published = either HoldsPublished _ _ _ within (published_held world (shown_of world) within);
  reaped = within;
  accepted = λ ask worker is. within;
  closed = λ connection worker is. within;
  settled = λ worker is. settled_held worker world within;
})
