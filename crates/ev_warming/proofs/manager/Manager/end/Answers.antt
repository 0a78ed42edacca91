use Rattle.std.proofs.Common.{◌∙◌, ◌++◌, option_to_list, sym, subst}
use Rattle.ev_model.specs.Signals.{ended_status}
use Rattle.ev_warming.proofs.NeedLemmas.{needs-statused}
use Rattle.ev_warming.specs.Forgetting.{IsTidyBut}
use Rattle.ev_warming.proofs.TidyLemmas.{tidy-ended}
use Rattle.ev_warming.proofs.manager.Manager.end.Goals as goal

pub returns-clause-kept : goal.returns-clause-kept
returns-clause-kept g c =
    let m = c.args.self.now in
    let t = c.end.new.state in
    let e = c.end.ensures in
    record {
      indexed = e.indexed;
      needs = needs-statused m.state.table.rows t.table.rows (ended_status c.args.kind c.args.name.now) e.rows c.requires.kept.needs;
      tidy = subst (IsTidyBut t) (sym (c.in_ok-put_one-2.ensures ∙ (λ i. c.in_ok-put_one.ensures i ++ option_to_list c.standing-ended.result.active)))
          (tidy-ended m.state t c.args.kind c.args.name.now c.standing-ended.result m.stale c.requires.kept.indexed c.standing-ended.ensures e.rows e.marks (λ i. (e.others i).results) c.requires.kept.tidy);
    }
