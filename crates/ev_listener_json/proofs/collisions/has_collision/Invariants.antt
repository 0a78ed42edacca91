use Rattle.std.proofs.Common.{◌≡◌, take, false}
use Rattle.ev_listener_json.specs.ChainPlaces.{HasFirst}
use Rattle.ev_listener_json.proofs.Overlaps.{chains_collide}
use Rattle.ev_listener_json.proofs.collisions.has_collision.Given as goal

abbrev pub invariant-loop-place : goal.invariant-loop-place
invariant-loop-place l =
    record {
      none : chains_collide (take l.place l.chains) ≡ false;
      has : HasFirst l.place l.chains l.places;
    }
