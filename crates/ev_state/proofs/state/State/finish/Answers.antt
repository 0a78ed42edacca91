use Rattle.std.proofs.Common.{None, ap, ◌∙◌}
use Rattle.ev_types.specs.declared.events.Answer.TheVariants.{Moved}
use Rattle.ev_model.specs.Requests.{requests_by}
use Rattle.ev_model.specs.Tidy.{tidy}
use Rattle.ev_model.specs.Watching.{watched_of}
use Rattle.ev_model.specs.World.{World}
use Rattle.ev_state.proofs.state.State.finish.Goals as goal

pub returns : goal.returns
returns g c = λ before world follows drawn have.
    let over = c.in_ok-asked.ensures.over before world follows (c.made-made.ensures ∙ follows.stands.managers.made ∙ drawn) have in
    let after : World = tidy world in
    record {
      kept = c.in_ok-asked.ensures.kept;
      forgotten = c.in_ok-asked.ensures.forgotten;
      follows = over.follows;
      later = over.later;
      answer = ap Moved (c.in_ok-requests.ensures after (watched_of before) (watched_of after) over.follows.stands.subscription over.changed_before over.changed_behind
          ∙ (λ i. requests_by after.stream (watched_of before) (watched_of after) (over.left i) after.versions None));
      moved = over.moved;
    }
