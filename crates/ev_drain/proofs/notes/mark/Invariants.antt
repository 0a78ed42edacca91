use Rattle.std.proofs.Common.{◌≡◌, take, map}
use Rattle.std.specs.List.{list_any}
use Rattle.ev_drain.specs.Notes.{is_waiting_among, marked_among}
use Rattle.ev_drain.proofs.notes.mark.Given as goal

abbrev pub invariant-loop-number : goal.invariant-loop-number
invariant-loop-number l =
    (l.notes.entries ≡ map (marked_among l.name (take l.number-index l.numbers)) l.initial.notes.entries)
    × (l.meant ≡ list_any (is_waiting_among l.name (take l.number-index l.numbers)) l.initial.notes.entries)
