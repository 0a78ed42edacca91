-- What a manager keeps from call to call.
use Rattle.std.specs.List.{AllByRecursion}
use Rattle.ev_types.specs.declared.rows.GenRow.{GenRow}
use Rattle.ev_model.specs.Watching.{dependencies_of}
use Rattle.ev_warming.specs.declared.manager.Manager.{Manager}
use Rattle.ev_indexes.specs.Needs.{HaveNames}
use Rattle.ev_indexes.specs.Indexes.{IsIndexed}
use Rattle.ev_warming.specs.Forgetting.{IsTidyBut}

-- each index is a search of the rows, the next forgetting looks at all that has to go, and what rows
-- depend on are names
pub record IsKept (m : Manager) : Type 0 where
  pub indexed : IsIndexed m.state
  pub tidy : IsTidyBut m.state m.stale
  pub needs : AllByRecursion (λ (row : GenRow). HaveNames (dependencies_of row.content)) m.state.table.rows
