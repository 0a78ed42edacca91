use Rattle.std.proofs.Common.{List, ℕ, ap, ◌∙◌, subst}
use Rattle.ev_retirement.specs.Holders.{HoldsFor, without_generations}
use Rattle.ev_retirement.proofs.ReapLemmas.{all_taken}
use Rattle.ev_retirement.proofs.holders.Holders.remove_all.Goals as goal

pub returns-clause-reaped : goal.returns-clause-reaped
returns-clause-reaped c format world stands numbered is =
    subst (HoldsFor c.take_out.new.self) (ap (λ (ns : List ℕ). without_generations ns world) is ∙ all_taken format world numbered)
    (c.take_out.ensures world stands)
