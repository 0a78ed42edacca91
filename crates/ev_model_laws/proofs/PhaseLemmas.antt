-- The phase never goes back.
use Rattle.std.proofs.Common.{ℕ, ◌≤◌, Bool, true, false, cond, List, arith, le_trans}
use Rattle.ev_types.specs.declared.rows.GenRow.{GenRow}
use Rattle.ev_types.specs.declared.rows.Phase.{Phase}
use Rattle.ev_types.specs.declared.rows.Phase.TheVariants.{Clusters, Listeners, Serving}
use Rattle.ev_model.specs.Phase.{phase_from}
use Rattle.ev_model_laws.specs.PhaseForward.{rank, NeverGoesBack}
use Rattle.ev_model_laws.proofs.KeepLemmas.{Keeps, step-keeps}

-- both of two phases are this far
both_far : (least : ℕ) (test : Bool) (this that : Phase) → least ≤ rank this → least ≤ rank that → least ≤ rank (cond test this that)
both_far least true this that far other = far
both_far least false this that far other = other

-- a phase moves on forwards
phase_from-forward : (clusters listeners : Bool) (phase : Phase) → rank phase ≤ rank (phase_from clusters listeners phase)
phase_from-forward clusters listeners Clusters = omega arith
phase_from-forward clusters listeners Listeners = both_far 1 listeners Serving Listeners (omega arith) (omega arith)
phase_from-forward clusters listeners Serving = omega arith

keeps_far : (least : ℕ) → Keeps (λ (rows : List GenRow) made phase. least ≤ rank phase)
keeps_far least = record {
  removed = λ goes rows made phase far. far;
  added = λ kind name content kept rows made phase far. far;
  left = λ test rows made phase far. far;
  tidied = λ world far. le_trans far (phase_from-forward _ _ world.phase);
}

pub never_goes_back : NeverGoesBack
never_goes_back format world actor event = step-keeps _ (keeps_far (rank world.phase)) format world actor event (omega arith)
