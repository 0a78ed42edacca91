use Rattle.std.proofs.Common.{[], sym, subst}
use Rattle.std.specs.List.{AllByRecursion}
use Rattle.ev_types.specs.declared.rows.GenRow.{GenRow}
use Rattle.ev_model.specs.Watching.{dependencies_of}
use Rattle.ev_warming.specs.Forgetting.{IsTidyBut}
use Rattle.ev_warming.proofs.TidyLemmas.{tidy-new}
use Rattle.ev_indexes.specs.Needs.{HaveNames}
use Rattle.ev_warming.proofs.manager.Manager.new.Goals as goal

pub returns-clause-kept : goal.returns-clause-kept
returns-clause-kept c = record {
  indexed = c.new.ensures.indexed;
  needs = subst (AllByRecursion (λ (r : GenRow). HaveNames (dependencies_of r.content))) (sym (c.new.ensures.stands 0 []).rows) tt;
  tidy = subst (IsTidyBut c.new.result) (sym c.new-2.ensures.empty) (tidy-new c.new.result (c.new.ensures.stands 0 []));
}
