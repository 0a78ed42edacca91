use Rattle.std.proofs.Common.{◌≡◌, ◌∙◌, option_to_list, sym, subst}
use Rattle.ev_model.specs.Rows.{rows_with_new}
use Rattle.ev_lookups.specs.Keys.{named}
use Rattle.ev_warming.specs.Changes.{Tells}
use Rattle.ev_warming.specs.Forgetting.{IsTidyBut}
use Rattle.ev_warming.proofs.NeedLemmas.{needs-added}
use Rattle.ev_warming.proofs.RetiredLemmas.{tells-added}
use Rattle.ev_warming.proofs.TidyLemmas.{tidy-added}
use Rattle.ev_warming.proofs.manager.Manager.make.Goals as goal

pub returns-clause-kept : goal.returns-clause-kept
returns-clause-kept g c =
    let m = c.args.self.now in
    let t = c.add.new.state in
    let e = c.in_ok-add.ensures in
    let content = c.args.content.now in
    let rows : t.table.rows ≡ rows_with_new c.args.kind m.state.table.made c.args.name content c.args.chains m.state.table.rows = e.rows in
    record {
      indexed = e.indexed;
      needs = needs-added c.args.kind m.state.table.made c.args.name content c.args.chains m.state.table.rows t.table.rows rows c.requires.kept.needs e.needs;
      tidy = subst (IsTidyBut t) (sym c.in_ok-put_one.ensures)
          (tidy-added m.state t c.args.kind c.args.name content c.args.chains c.standing-dropped.result.warming m.stale c.requires.kept.indexed (λ i. (c.standing-dropped.ensures i).warming)
          rows e.marks (λ i. (e.others i).results) c.requires.kept.tidy);
    }

pub returns-clause-told : goal.returns-clause-told
returns-clause-told g c =
    let m = c.args.self.now in
    let e = c.in_ok-add.ensures in
    let x = c.requires.kept.indexed in
    let content = c.args.content.now in
    let rows : c.add.new.state.table.rows ≡ rows_with_new c.args.kind m.state.table.made c.args.name content c.args.chains m.state.table.rows = e.rows in
    subst (Tells m.state.table.rows c.add.new.state.table.rows c.args.retired.now) (sym c.in_ok-put_one-2.ensures)
    (tells-added c.args.kind c.args.name m.state.table.rows x.table.apart m.state.table.made content c.args.chains c.standing-dropped.result.warming c.add.new.state.table.rows c.args.retired.now
    ((λ i. option_to_list (c.standing-dropped.ensures i).warming) ∙ x.warming (named c.args.kind c.args.name)) rows)
