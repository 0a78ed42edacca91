use Rattle.std.proofs.Common.{◌∙◌, ap}
use Rattle.ev_listener_json.specs.ChainPlaces.{any_under}
use Rattle.ev_listener_json.proofs.CollisionLemmas.{found_fewest}
use Rattle.ev_listener_json.proofs.collisions.collides_with_any.Goals as goal

pub returns : goal.returns
returns c =
    let places = c.args.places.now in
    c.any_under.ensures
    ∙ ap (any_under places c.args.chains.now c.args.one.now) (c.as_slice.ensures.value ∙ c.in_ok-keys.ensures)
    ∙ found_fewest c.args.chains.now c.args.one.now places c.requires
