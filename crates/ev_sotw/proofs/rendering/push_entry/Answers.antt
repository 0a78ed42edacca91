use Rattle.std.proofs.Common.{ℕ, List, subst}
use Rattle.ev_trees.proofs.BackLemmas.{on_ok}
use Rattle.ev_sotw.specs.Stated.{stated_with}
use Rattle.ev_sotw.specs.Follows.{GoesOnBy}
use Rattle.ev_sotw.proofs.rendering.push_entry.Goals as goal

pub returns-clause-follows : goal.returns-clause-follows
returns-clause-follows c =
    on_ok c.extend_from_slice.result
    (subst (λ (version : List ℕ). GoesOnBy (stated_with c.args.entry.now version) c.args.state.now c.line.new.self) c.in_ok-version.ensures c.in_ok-line.ensures.follows)
