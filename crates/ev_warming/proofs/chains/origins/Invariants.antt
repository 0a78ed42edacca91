use Rattle.std.proofs.Common.{◌≤◌, drop, length}
use Rattle.ev_model.specs.Origins.{placed_from}
use Rattle.ev_warming.specs.Chains.{HaveOrigins}
use Rattle.ev_warming.proofs.chains.origins.Given as goal

abbrev pub invariant-chains : goal.invariant-chains
invariant-chains l = record {
  within : l.place ≤ length l.chains;
  have : HaveOrigins l.row (placed_from l.place (drop l.place l.chains)) l.origins;
}

abbrev pub decreases-chains : goal.decreases-chains
decreases-chains l = l.place
