use Rattle.std.proofs.Common.{◌≡◌, ◌∙◌, ◌+◌, sym, cond, true, false, Some, None, get_or}
use Rattle.std.specs.Option.{option_or}
use Rattle.ev_types.specs.SameHosts.{host_same}
use Rattle.ev_types.proofs.HostLemmas.{place_of-more, place_of-take}
use Rattle.ev_types.proofs.hosts.walk_to.Goals as goal

pub returns-then-eq : goal.returns-then-eq
returns-then-eq c =
    let host = c.args.host.now in
    let rows = c.args.rows.now in
    let place = c.loop-place.place in
    let same : host_same (get_or rows place c.index-rows-place.result).host host ≡ true =
    (λ i. host_same (sym (c.row.view_is ∙ c.index-rows-place.is) i).host host) ∙ sym c.eq.ensures ∙ c.if-eq.true in
    sym (place_of-take host rows (place + 1) place
    (place_of-more host rows place c.index-rows-place.result c.loop-place-test.true
    ∙ (λ i. option_or (c.loop-place.invariant i) (cond (same i) (Some place) None))))

pub loop-place-preserved : goal.loop-place-preserved
loop-place-preserved c =
    let host = c.args.host.now in
    let rows = c.args.rows.now in
    let place = c.loop-place.place in
    let other : host_same (get_or rows place c.index-rows-place.result).host host ≡ false =
    (λ i. host_same (sym (c.row.view_is ∙ c.index-rows-place.is) i).host host) ∙ sym c.eq.ensures ∙ c.if-eq.false in
    place_of-more host rows place c.index-rows-place.result c.loop-place-test.true
    ∙ (λ i. option_or (c.loop-place.invariant i) (cond (other i) (Some place) None))
