use Rattle.std.proofs.Common.{◌≡◌, ◌∙◌, ◌<◌, ◌+◌, List, ◌∷◌, drop, length, get_or, ap, sym, subst, arith}
use Rattle.std.proofs.lemmas.List.{drop_more}
use Rattle.ev_types.specs.Items.{ItemParts}
use Rattle.ev_types.specs.declared.events.Verdict.{Verdict}
use Rattle.ev_model.specs.Rows.{add_item}
use Rattle.ev_indexes.specs.Worlds.{HasRows}
use Rattle.ev_warming.specs.Arrivals.{AreOnValues}
use Rattle.ev_warming.proofs.ResponseLemmas.{item-more}
use Rattle.ev_warming.proofs.manager.Manager.take_values.Goals as goal

pub loop-place-preserved : goal.loop-place-preserved
loop-place-preserved g c =
    let i = c.loop-place.invariant in
    let e = c.in_ok-take_value.ensures in
    let rows = c.args.self.now.state.table.rows in
    let kind = c.args.kind in
    let place = c.loop-place.place in
    let verdicts = c.args.verdicts.now in
    let verdict = c.index-verdicts-place.result in
    let items = c.args.items.now in
    let item = c.index-items-place.result in
    let within : place < length verdicts = omega (arith, c.requires.one_each, c.loop-place-test.true) in
    let here : drop place items ≡ item ∷ drop (place + 1) items = drop_more items place item c.loop-place-test.true
    ∙ ap (λ (x : ItemParts). x ∷ drop (place + 1) items) (sym c.index-items-place.is) in
    let both : AreOnValues kind rows (get_or verdicts place verdict ∷ drop (place + 1) verdicts) (item ∷ drop (place + 1) items) =
    subst (λ (xs : List ItemParts). AreOnValues kind rows (get_or verdicts place verdict ∷ drop (place + 1) verdicts) xs) here
    (subst (λ (vs : List Verdict). AreOnValues kind rows vs (drop place items)) (drop_more verdicts place verdict within) i.on_values) in
    record {
      kept = e.kept;
      table = e.table ∙ i.table;
      on_values = both.1;
      stands = λ world stands.
          let w = i.stands world stands in (
            add_item kind (get_or verdicts place verdict) item w.0,
            subst (λ (v : Verdict). HasRows c.take_value.new.self.state (add_item kind v item w.0)) c.index-verdicts-place.is (e.stands w.0 w.1),
            item-more kind verdicts items place verdict item w.0 within c.loop-place-test.true c.index-items-place.is ∙ w.2,
          );
    }
