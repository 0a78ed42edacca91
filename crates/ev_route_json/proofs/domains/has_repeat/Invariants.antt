use Rattle.std.proofs.Common.{◌≡◌, ◌||◌, map, string_bytes}
use Rattle.std.specs.List.{list_any}
use Rattle.std.specs.BTreeSet.{contains_text}
use Rattle.std.specs.Vec.Iter.{into_iter_items}
use Rattle.ev_route_json.specs.Domains.{has_repeat}
use Rattle.ev_route_json.proofs.domains.has_repeat.Given as goal

-- a text of the rest was seen, or occurs in the rest twice
abbrev pub invariant-loop-text : goal.invariant-loop-text
invariant-loop-text l =
    (list_any (contains_text l.seen) (map string_bytes (into_iter_items l.text-iterator)) || has_repeat (map string_bytes (into_iter_items l.text-iterator)))
    ≡ has_repeat (map string_bytes l.fn.texts.items)
