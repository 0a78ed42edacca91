use Rattle.std.proofs.Common.{sym, subst}
use Rattle.ev_model.specs.Live.{lives_of}
use Rattle.ev_verdicts.specs.Known.{Tells}
use Rattle.ev_state.specs.Known.{BeforeParts, answers_before}
use Rattle.ev_state.proofs.KnownLemmas.{tells}
use Rattle.ev_state.proofs.state.State.judge.Goals as goal

pub returns-clause-judged : goal.returns-clause-judged
returns-clause-judged c = λ kind world at typed.
    c.in_ok-verdicts.ensures.verdicts kind (lives_of world) world.versions typed
    (subst (λ (b : BeforeParts). Tells (answers_before b) kind (lives_of world) world.versions) (sym c.new-before.ensures)
    (tells c.args.self.now.managers.core.state c.args.self.now.subscription kind world
    at.kept.indexed at.follows.stands.managers at.follows.stands.subscription at.whole))
