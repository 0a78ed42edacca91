use Rattle.std.proofs.Common.{◌≡◌, ◌∙◌, List, ℕ, ap, refl, sym, subst}
use Rattle.ev_types.specs.Items.{ResponseParts}
use Rattle.ev_model.specs.Verdicts.{is_among}
use Rattle.std.proofs.lemmas.List.{take_all}
use Rattle.ev_model.specs.Rows.{with_statuses}
use Rattle.ev_warming.specs.Changes.{status_left_by}
use Rattle.ev_indexes.specs.Worlds.{HasRows}
use Rattle.ev_warming.proofs.RetiredLemmas.{tells-none, tells-then}
use Rattle.ev_warming.proofs.ResponseLemmas.{nothing-stands, more-stands, listed-at}
use Rattle.ev_warming.proofs.manager.Manager.remove_names.Goals as goal

pub loop-name-init : goal.loop-name-init
loop-name-init g c = record {
  kept = c.requires.kept;
  made = refl;
  told = tells-none c.args.self.now.state.table.rows c.args.retired.now;
  stands = λ world stands. nothing-stands c.args.self.now.state world c.args.kind c.args.mentions.now stands;
}

pub loop-name-preserved : goal.loop-name-preserved
loop-name-preserved g c =
    let i = c.loop-name.invariant in
    let e = c.in_ok-remove_name.ensures in
    let s = c.loop-name.self.state in
    let t = c.remove_name.new.self.state in
    let kind = c.args.kind in
    let response = c.args.mentions.now in
    let name = c.name-item.result in
    record {
      kept = e.kept;
      made = e.made ∙ i.made;
      told = tells-then c.args.self.now.state.table.rows s.table.rows t.table.rows c.args.retired.now c.loop-name.retired c.remove_name.new.retired i.told e.told;
      stands = λ world stands.
          more-stands s t world kind response c.as_slice-name-items.result.now c.loop-name.name-index name c.loop-name-test.true c.name-item.is (i.stands world stands)
          (λ w standing. e.stands w standing);
    }

pub returns-clause-stands : goal.returns-clause-stands
returns-clause-stands g c =
    let response = c.args.mentions.now in
    let kind = c.args.kind in
    λ world stands.
    subst (λ (names : List (List ℕ)). HasRows c.loop-name.self.state (record world { rows = with_statuses (status_left_by kind response names) world.rows }))
    (take_all c.loop-name.name-index c.as_slice-name-items.result.now c.loop-name-test.false ∙ c.as_slice-name-items.ensures.elements ∙ ap (λ (r : ResponseParts). r.removed) (c.behind-mentions.view_is ∙ c.response.ensures))
    (c.loop-name.invariant.stands world stands)

pub remove_name-requires-clause-listed : goal.remove_name-requires-clause-listed
remove_name-requires-clause-listed g c =
    let elements : c.as_slice-name-items.result.now ≡ c.args.mentions.now.removed = c.as_slice-name-items.ensures.elements ∙ ap (λ (r : ResponseParts). r.removed) (c.behind-mentions.view_is ∙ c.response.ensures) in
    (λ i. is_among c.name-item.result (sym elements i))
    ∙ listed-at c.as_slice-name-items.result.now c.loop-name.name-index c.name-item.result c.loop-name-test.true c.name-item.is
