use Rattle.std.proofs.Common.{◌≡◌, ◌++◌, map, drop, option_map}
use Rattle.serde_json.specs.View.{view}
use Rattle.ev_journal_read.specs.Trees.{all_read}
use Rattle.ev_journal_read.proofs.lists.read_all.Given as goal

-- what the rest reads as comes after what was read
abbrev pub invariant-loop-element : goal.invariant-loop-element
invariant-loop-element g l =
    all_read g.T.Element.reads (map view l.elements)
    ≡ option_map (λ rest. l.items.items ++ rest) (all_read g.T.Element.reads (map view (drop l.element-index l.elements)))
