use Rattle.std.proofs.Common.{◌∙◌, sym, cond, Some, None, take}
use Rattle.std.specs.Option.{option_or}
use Rattle.ev_types.specs.SameHosts.{host_same, place_of}
use Rattle.ev_types.proofs.HostLemmas.{place_of-more}
use Rattle.ev_types.proofs.host_index.HostIndex.of.Goals as goal

pub loop-place-preserved : goal.loop-place-preserved
loop-place-preserved c = λ h.
    let rows = c.args.rows.now in
    let place = c.loop-place.place in
    c.in_ok-put.ensures h
    ∙ (λ i. option_or (c.loop-place.invariant h i) (cond (host_same (c.row.view_is i).host h) (Some place) None))
    ∙ (λ i. option_or (place_of h (take place rows)) (cond (host_same (c.index-rows-place.is i).host h) (Some place) None))
    ∙ sym (place_of-more h rows place c.index-rows-place.result c.loop-place-test.true)
