use Rattle.ev_dump.proofs.FrontLemmas as lemmas
use Rattle.ev_dump.proofs.fronts.fronts_are_runs.Goals as goal

pub returns : goal.returns
returns c = lemmas.fronts_are_runs
