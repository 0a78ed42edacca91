-- Which generations ceased to be live: those that retired.
use Rattle.std.proofs.Common.{◌∙◌, ℕ, List, Some, ap}
use Rattle.ev_model.specs.World.{World}
use Rattle.ev_state.specs.Ages.{AreLater}
use Rattle.ev_state.specs.Retirements.{HaveRetired, HaveCeased}
use Rattle.ev_state.proofs.AgeLemmas.{found-later}

pub have-ceased : (retired : List ℕ) (before world : World) → AreLater before.made before.rows world.rows → HaveRetired retired before world → HaveCeased retired before world
have-ceased retired before world later have = record {
  told = have;
  stays = λ n row at over.
      let there = found-later before.made n row before.rows world.rows later at in
      there.at ∙ ap Some (there.so.same ∙ (λ i. record row { status = there.so.over over i }));
}
