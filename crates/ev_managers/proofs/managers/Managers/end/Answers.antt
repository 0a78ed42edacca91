use Rattle.std.proofs.Common.{sym, subst}
use Rattle.ev_managers.specs.Moved.{AreRetired}
use Rattle.ev_managers.proofs.RetiredLemmas.{none-are}
use Rattle.ev_managers.proofs.managers.Managers.end.Goals as goal

pub returns-then-is_by_name-clause-retired : goal.returns-then-is_by_name-clause-retired
returns-then-is_by_name-clause-retired g c =
    subst (λ ns. AreRetired ns c.args.self.now c.end_value.new.self) (sym c.new.ensures.empty) (none-are c.args.self.now c.end_value.new.self c.in_ok-end_value.ensures.rows)
