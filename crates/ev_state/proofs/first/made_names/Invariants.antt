use Rattle.std.proofs.Common.{◌≡◌, ◌++◌, drop}
use Rattle.ev_model.specs.Rows.{made_names}
use Rattle.ev_state.proofs.first.made_names.Given as goal

abbrev pub invariant-loop-place : goal.invariant-loop-place
invariant-loop-place l = l.names.items ++ made_names (drop l.place l.verdicts) (drop l.place l.items) ≡ made_names l.verdicts l.items
