use Rattle.std.proofs.Common.{sym, subst, ap}
use Rattle.ev_indexes.specs.Tables.{GenerationsParts}
use Rattle.ev_managers.specs.Moved.{AreRetired}
use Rattle.ev_managers.proofs.RetiredLemmas.{none-are}
use Rattle.ev_managers.proofs.managers.Managers.respond.Goals as goal

pub returns-then-is_by_name-clause-retired : goal.returns-then-is_by_name-clause-retired
returns-then-is_by_name-clause-retired g c =
    subst (λ ns. AreRetired ns c.args.self.now (record c.args.self.now { core = c.arrive_all.new.self })) (sym c.new.ensures.empty)
    (none-are c.args.self.now (record c.args.self.now { core = c.arrive_all.new.self }) (ap (λ (t : GenerationsParts). t.rows) c.in_ok-arrive_all.ensures.table))
