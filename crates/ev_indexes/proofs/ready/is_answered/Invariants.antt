use Rattle.std.proofs.Common.{◌≡◌, length}
use Rattle.std.specs.List.{list_all}
use Rattle.ev_model.specs.Watching.{dependencies_of}
use Rattle.ev_indexes.specs.Ready.{has_answer_in}
use Rattle.ev_indexes.proofs.ready.is_answered.Given as goal

abbrev pub invariant-loop-need : goal.invariant-loop-need
invariant-loop-need l =
    list_all (has_answer_in l.watches l.number) l.needs ≡ list_all (has_answer_in l.watches l.number) (dependencies_of l.content)

abbrev pub decreases-loop-need : goal.decreases-loop-need
decreases-loop-need l = length l.needs
