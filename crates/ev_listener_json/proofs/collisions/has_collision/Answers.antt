use Rattle.std.proofs.Common.{◌∙◌, ◌||◌, ap, sym}
use Rattle.std.proofs.lemmas.List.{take_all}
use Rattle.ev_listener_json.proofs.Overlaps.{chains_collide, has_collision_chains, one_more, collides_with_earlier}
use Rattle.ev_listener_json.proofs.PlaceLemmas.{has_more}
use Rattle.ev_listener_json.proofs.collisions.has_collision.Goals as goal

pub returns-then-branch : goal.returns-then-branch
returns-then-branch c =
    let chains = c.args.chains.now in
    sym (has_collision_chains chains
    ∙ collides_with_earlier chains c.loop-place.place c.index-chains-place.result c.get-one.result.now c.loop-place-test.true c.index-chains-place.is c.get-one.ensures.value
    (sym c.in_ok-collides_with_any.ensures ∙ c.if-branch.true))

pub loop-place-preserved : goal.loop-place-preserved
loop-place-preserved c =
    let chains = c.args.chains.now in
    let place = c.loop-place.place in
    let chain = c.index-chains-place.result in
    let one = c.get-one.result.now in
    let apart = sym c.in_ok-collides_with_any.ensures ∙ c.if-branch.false in
    record {
      none = one_more chains place chain one c.loop-place-test.true c.index-chains-place.is c.get-one.ensures.value ∙ (λ i. c.loop-place.invariant.none i || apart i);
      has = has_more chains place chain one c.loop-place.places c.put_match.new.self c.loop-place-test.true c.index-chains-place.is c.get-one.ensures.value
          c.in_ok-put_match.ensures c.loop-place.invariant.has;
    }

pub returns : goal.returns
returns c =
    let chains = c.args.chains.now in
    sym (has_collision_chains chains ∙ ap chains_collide (sym (take_all c.loop-place.place chains c.loop-place-test.false)) ∙ c.loop-place.invariant.none)
