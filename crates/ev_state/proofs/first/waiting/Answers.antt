use Rattle.std.proofs.Common.{is_some}
use Rattle.ev_state.specs.InitTargets.{comes_in}
use Rattle.ev_state.proofs.WaitLemmas.{fails-behind, fails-before}
use Rattle.ev_state.proofs.first.waiting.Goals as goal

pub returns-in-Some : goal.returns-in-Some
returns-in-Some c = fails-behind (comes_in c.args.kind c.args.known.now) c.args.names.now c.min-from.result c.in-Some.ensures.waits

pub returns-in-None : goal.returns-in-None
returns-in-None c =
    fails-before (comes_in c.args.kind c.args.known.now) c.args.names.now c.min-from.result (is_some c.first_waiting-in-None.result) c.in-None.ensures.waits c.first_waiting-in-None.ensures.waits
