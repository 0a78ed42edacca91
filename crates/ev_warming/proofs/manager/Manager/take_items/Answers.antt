use Rattle.std.proofs.Common.{◌∙◌, ◌<◌, ◌+◌, ◌∷◌, drop, length, get_or, subst, sym, arith, refl}
use Rattle.std.proofs.lemmas.List.{drop_more}
use Rattle.ev_types.specs.declared.events.Verdict.{Verdict}
use Rattle.ev_model.specs.Rows.{add_item}
use Rattle.ev_indexes.specs.Worlds.{HasRows}
use Rattle.ev_warming.specs.Arrivals.{AreOnRows, IsOnRow}
use Rattle.ev_warming.proofs.RetiredLemmas.{tells-none, tells-then}
use Rattle.ev_warming.proofs.ResponseLemmas.{item-more}
use Rattle.ev_warming.proofs.manager.Manager.take_items.Goals as goal

pub loop-place-init : goal.loop-place-init
loop-place-init g c = record {
  kept = c.requires.kept;
  grows = omega arith;
  told = tells-none c.args.self.now.state.table.rows c.args.retired.now;
  few = omega arith;
  on_rows = c.requires.on_rows;
  stands = λ world stands. (world, stands, refl);
}

pub loop-place-preserved : goal.loop-place-preserved
loop-place-preserved g c =
    let i = c.loop-place.invariant in
    let e = c.in_ok-take_item.ensures in
    let kind = c.args.kind in
    let t = c.take_item.new.self.state in
    let place = c.loop-place.place in
    let item = c.index-items-place.result in
    let verdicts = c.args.verdicts.now in
    let verdict = c.index-verdicts-place.result in
    let within : place < length verdicts = omega (arith, c.requires.one_each, c.loop-place-test.true) in
    let both : AreOnRows (get_or verdicts place verdict ∷ drop (place + 1) verdicts) = subst AreOnRows (drop_more verdicts place verdict within) i.on_rows in
    record {
      kept = e.kept;
      grows = omega (arith, i.grows, e.grows);
      told = tells-then c.args.self.now.state.table.rows c.loop-place.self.state.table.rows t.table.rows c.args.retired.now c.loop-place.retired c.take_item.new.retired i.told e.told;
      few = omega (arith, e.few, i.few);
      on_rows = both.1;
      stands = λ world stands.
          let w = i.stands world stands in (
            add_item kind (get_or verdicts place verdict) item w.0,
            subst (λ (v : Verdict). HasRows t (add_item kind v item w.0)) c.index-verdicts-place.is (e.stands w.0 w.1),
            item-more kind verdicts c.args.items.now place verdict item w.0 within c.loop-place-test.true c.index-items-place.is ∙ w.2,
          );
    }

pub take_item-requires-clause-on_row : goal.take_item-requires-clause-on_row
take_item-requires-clause-on_row g c =
    let verdicts = c.args.verdicts.now in
    let place = c.loop-place.place in
    let within : place < length verdicts = omega (arith, c.requires.one_each, c.loop-place-test.true) in
    subst IsOnRow (sym c.index-verdicts-place.is)
    (subst AreOnRows (drop_more verdicts place c.index-verdicts-place.result within) c.loop-place.invariant.on_rows).0
