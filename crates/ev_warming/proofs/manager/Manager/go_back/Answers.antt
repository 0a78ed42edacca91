use Rattle.std.proofs.Common.{◌∙◌, option_to_list, sym, subst}
use Rattle.ev_model.specs.Rows.{replaced_status}
use Rattle.ev_lookups.specs.Keys.{named}
use Rattle.ev_warming.specs.Changes.{Tells}
use Rattle.ev_warming.specs.Forgetting.{IsTidyBut}
use Rattle.ev_warming.proofs.ArrivalLemmas.{statused-stands}
use Rattle.ev_warming.proofs.NeedLemmas.{needs-statused}
use Rattle.ev_warming.proofs.RetiredLemmas.{tells-replaced}
use Rattle.ev_warming.proofs.TidyLemmas.{tidy-replaced}
use Rattle.ev_warming.proofs.manager.Manager.go_back.Goals as goal

pub returns-clause-kept : goal.returns-clause-kept
returns-clause-kept g c =
    let m = c.args.self.now in
    let t = c.drop_warming.new.state in
    let e = c.drop_warming.ensures in
    record {
      indexed = e.indexed;
      needs = needs-statused m.state.table.rows t.table.rows (replaced_status c.args.kind c.args.name.now) e.rows c.requires.kept.needs;
      tidy = subst (IsTidyBut t) (sym c.in_ok-put_one.ensures)
          (tidy-replaced m.state t c.args.kind c.args.name.now c.standing-dropped.result.warming m.stale c.requires.kept.indexed (λ i. (c.standing-dropped.ensures i).warming)
          e.rows e.marks (λ i. (e.others i).results) c.requires.kept.tidy);
    }

pub returns-clause-told : goal.returns-clause-told
returns-clause-told g c =
    let m = c.args.self.now in
    let x = c.requires.kept.indexed in
    subst (Tells m.state.table.rows c.drop_warming.new.state.table.rows c.args.retired.now) (sym c.in_ok-put_one-2.ensures)
    (tells-replaced c.args.kind c.args.name.now m.state.table.rows x.table.apart c.standing-dropped.result.warming c.drop_warming.new.state.table.rows c.args.retired.now
    ((λ i. option_to_list (c.standing-dropped.ensures i).warming) ∙ x.warming (named c.args.kind c.args.name.now)) c.drop_warming.ensures.rows)

pub returns-clause-stands : goal.returns-clause-stands
returns-clause-stands g c = λ world stands.
    let e = c.drop_warming.ensures in
    statused-stands c.args.self.now.state c.drop_warming.new.state world (replaced_status c.args.kind c.args.name.now) stands
    e.made (λ i. (e.others i).results) e.marks e.rows
