use Rattle.std.proofs.Common.{◌∙◌, ◌++◌, sym, subst}
use Rattle.ev_types.specs.declared.rows.GenRow.{GenRow}
use Rattle.ev_model.specs.Tidy.{status_by}
use Rattle.ev_warming.specs.Promotion.{succeeded_by}
use Rattle.ev_warming.proofs.NeedLemmas.{needs-statused}
use Rattle.ev_indexes.specs.Ready.{is_ready_in}
use Rattle.ev_warming.specs.Forgetting.{IsTidyBut}
use Rattle.ev_warming.proofs.QuietLemmas.{quiet-names}
use Rattle.ev_warming.proofs.TidyLemmas.{tidy-promoted}
use Rattle.ev_warming.proofs.manager.Manager.promote.Goals as goal

pub returns-clause-kept : goal.returns-clause-kept
returns-clause-kept g c =
    let m = c.args.self.now in
    let t = c.promote.new.state in
    let e = c.in_ok-promoted.ensures in
    record {
      indexed = e.indexed;
      needs = needs-statused m.state.table.rows t.table.rows
          (λ (r : GenRow). status_by (succeeded_by (is_ready_in m.state.watches m.state.results) m.state.table.rows r) (is_ready_in m.state.watches m.state.results r) r.status) e.rows c.requires.kept.needs;
      tidy = subst (IsTidyBut t) (sym (c.in_ok-put_all.ensures ∙ (λ i. m.stale ++ c.as_slice.ensures.elements i)))
          (tidy-promoted m.state t (is_ready_in m.state.watches m.state.results) c.in_ok-promoted.promoted.drained m.stale c.requires.kept.indexed
          e.rows e.drained e.marks (λ i. (e.others i).results) c.requires.kept.tidy);
    }

pub returns-clause-watched : goal.returns-clause-watched
returns-clause-watched g c = λ none.
    let m = c.args.self.now in
    let e = c.in_ok-promoted.ensures in
    quiet-names (is_ready_in m.state.watches m.state.results) m.state.table.rows c.promote.new.state.table.rows c.requires.kept.indexed.table.apart e.rows c.in_ok-promoted.promoted.drained none e.drained
