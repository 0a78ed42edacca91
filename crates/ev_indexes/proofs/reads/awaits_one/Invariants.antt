use Rattle.std.proofs.Common.{◌≡◌, length}
use Rattle.std.specs.List.{list_any}
use Rattle.ev_lookups.specs.Keys.{named}
use Rattle.ev_model.specs.Watching.{dependencies_of}
use Rattle.ev_indexes.specs.Reads.{awaits_in}
use Rattle.ev_indexes.proofs.reads.awaits_one.Given as goal

abbrev pub invariant-loop-need : goal.invariant-loop-need
invariant-loop-need l =
    list_any (awaits_in (named l.kind l.name) l.watch l.number) l.needs
    ≡ list_any (awaits_in (named l.kind l.name) l.watch l.number) (dependencies_of l.content)

abbrev pub decreases-loop-need : goal.decreases-loop-need
decreases-loop-need l = length l.needs
