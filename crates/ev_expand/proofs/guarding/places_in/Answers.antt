use Rattle.std.proofs.Common.{rules, arith, ◌≡◌, ◌<◌, List, ◌++◌, length, map, filter_map, take, Option, option_map, sym, ap, ◌∙◌}
use Rattle.std.proofs.lemmas.List.{length-map}
use Rattle.serde_json.specs.Data.{Data}
use Rattle.serde_json.specs.View.{view}
use Rattle.ev_types.specs.declared.contents.Kind.TheVariants.{Cds}
use Rattle.ev_types.specs.declared.events.Profile.{Profile}
use Rattle.ev_wire.specs.Responses.{item_of}
use Rattle.ev_expand.specs.declared.keys.Key.{Key}
use Rattle.ev_expand.specs.Guarding.{Guard, guarded_of, each_once, place_in}
use Rattle.ev_expand.specs.Numbers.{guarded_so_far, guarded_with}
use Rattle.ev_expand.proofs.EventLemmas.{cluster_items_read}
use Rattle.ev_expand.proofs.NumberLemmas.{entry_item, viewed_more, placed_next, numbers-push}
use Rattle.ev_expand.proofs.guarding.places_in.Goals as goal

pub offset_bounds-items-index : goal.offset_bounds-items-index
offset_bounds-items-index g c =
    let profile : Profile = (g.E.Expansion.rules c.args.profile).guard.profile in
    let items : c.items_by-items.result.now ≡ map (item_of profile Cds) (map view c.in_ok-entries.entries.now) =
    c.items_by-items.ensures ∙ cluster_items_read profile (view c.args.line.now) c.args.event.now c.requires
    ∙ ap (map (item_of profile Cds)) (sym c.in_ok-entries.ensures) in
    let below : c.loop-index.index < length c.items_by-items.result.now =
    omega (
      arith,
      c.loop-index-test.true,
      ap length items,
      length-map (map view c.in_ok-entries.entries.now) (item_of profile Cds),
      length-map c.in_ok-entries.entries.now view,
    ) in
    search rules

pub bounds-items-index : goal.bounds-items-index
bounds-items-index g c =
    let profile : Profile = (g.E.Expansion.rules c.args.profile).guard.profile in
    let items : c.items_by-items.result.now ≡ map (item_of profile Cds) (map view c.in_ok-entries.entries.now) =
    c.items_by-items.ensures ∙ cluster_items_read profile (view c.args.line.now) c.args.event.now c.requires
    ∙ ap (map (item_of profile Cds)) (sym c.in_ok-entries.ensures) in
    omega (
      arith,
      c.loop-index-test.true,
      ap length items,
      length-map (map view c.in_ok-entries.entries.now) (item_of profile Cds),
      length-map c.in_ok-entries.entries.now view,
    )

pub key-requires : goal.key-requires
key-requires g c =
    let profile : Profile = (g.E.Expansion.rules c.args.profile).guard.profile in
    entry_item profile c.items_by-items.result.now c.in_ok-entries.entries.now c.loop-index.index _ _
    (c.items_by-items.ensures ∙ cluster_items_read profile (view c.args.line.now) c.args.event.now c.requires
    ∙ ap (map (item_of profile Cds)) (sym c.in_ok-entries.ensures)) c.loop-index-test.true c.index-items-index.is c.index-entries-index.is

pub loop-index-preserved : goal.loop-index-preserved
loop-index-preserved g c =
    let guard : Guard = (g.E.Expansion.rules c.args.profile).guard in
    let entry : Data = view c.index-entries-index.result in
    let own : Data = guard.own_of entry in
    let after = viewed_more view c.in_ok-entries.entries.now c.loop-index.index c.index-entries-index.result c.index-entries-index.is c.loop-index-test.true in
    let one : guarded_with c.in_ok-key.key own ≡ guarded_of guard entry = ap (λ (k : Option Key). guarded_with k own) c.in_ok-key.ensures in
    record {
      numbers = λ gs h.
          numbers-push guard gs _ _ (map view (take c.loop-index.index c.in_ok-entries.entries.now)) entry _ (c.loop-index.invariant.numbers gs h) c.in_ok-place_entry.ensures.numbers one
          ∙ ap (λ (xs : List Data). each_once (gs ++ filter_map (guarded_of guard) xs)) (sym after);
      placed = placed_next guard _ _ entry _ _ (guarded_with c.in_ok-key.key own) _ _ _ c.loop-index.invariant.placed after c.in_ok-place_entry.ensures.numbers c.in_ok-push.ensures.items
          (c.in_ok-place_entry.ensures.place ∙ ap (option_map (place_in (guarded_so_far c.place_entry.new.numbers))) c.in_ok-key.ensures) c.in_ok-place_entry.ensures.within;
    }
