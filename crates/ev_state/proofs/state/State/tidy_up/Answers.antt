use Rattle.std.proofs.Common.{refl, ◌∙◌}
use Rattle.ev_model.specs.Tidy.{tidy}
use Rattle.ev_state.proofs.CeaseLemmas.{have-ceased}
use Rattle.ev_state.proofs.MoveLemmas.{none-moved}
use Rattle.ev_state.proofs.SameLemmas.{changed-none}
use Rattle.ev_state.proofs.WholeLemmas.{tidy-whole}
use Rattle.ev_state.proofs.state.State.tidy_up.Goals as goal

pub returns-clause-at : goal.returns-clause-at
returns-clause-at g c = λ world at.
    let over = c.in_ok-tidy.ensures.over world world at.follows (c.made-made.ensures ∙ at.follows.stands.managers.made) (none-moved c.none-moved.result world world c.none-moved.ensures refl (changed-none c.none-moved.result.changed world)) in
    record {
      kept = c.in_ok-tidy.ensures.kept;
      forgotten = c.in_ok-tidy.ensures.forgotten;
      follows = over.follows;
      whole = tidy-whole world at.whole;
    }

pub returns-clause-ceased : goal.returns-clause-ceased
returns-clause-ceased g c = λ world at.
    let over = c.in_ok-tidy.ensures.over world world at.follows (c.made-made.ensures ∙ at.follows.stands.managers.made) (none-moved c.none-moved.result world world c.none-moved.ensures refl (changed-none c.none-moved.result.changed world)) in
    have-ceased c.tidy.new.moved.retired world (tidy world) over.later over.moved.retired

pub returns-clause-changed : goal.returns-clause-changed
returns-clause-changed g c = λ world at.
    (c.in_ok-tidy.ensures.over world world at.follows (c.made-made.ensures ∙ at.follows.stands.managers.made) (none-moved c.none-moved.result world world c.none-moved.ensures refl (changed-none c.none-moved.result.changed world))).moved.changed
