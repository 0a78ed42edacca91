-- Every run has all nine laws.
use Rattle.ev_model.specs.Laws.{Told, Laws}
use Rattle.ev_model_laws.proofs.PlaceLemmas.{Runs}
use Rattle.ev_model_laws.proofs.WarmedLemmas.{runs_warmed}
use Rattle.ev_model_laws.proofs.LawLemmas.{runs_forward, runs_unused}
use Rattle.ev_model_laws.proofs.OnceLemmas.{runs_once}
use Rattle.ev_model_laws.proofs.RefusedLemmas.{runs_stay}
use Rattle.ev_model_laws.proofs.ReplyLemmas.{runs_acknowledge}
use Rattle.ev_model_laws.proofs.WaitedLemmas.{runs_waited}
use Rattle.ev_model_laws.proofs.ConnectionLemmas.{runs_keep_connections, runs_keep_bodies}

pub all_laws : (told : Told) → Runs told → Laws told
all_laws told run = record {
  warmed = runs_warmed told run;
  forward = runs_forward told run;
  unused = runs_unused told run;
  once = runs_once told run;
  stays = runs_stay told run;
  acknowledged = runs_acknowledge told run;
  waited = runs_waited told run;
  connections = runs_keep_connections told run;
  bodies = runs_keep_bodies told run;
}
