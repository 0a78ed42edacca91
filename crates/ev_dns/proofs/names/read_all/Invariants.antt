use Rattle.std.proofs.Common.{◌≡◌, ◌++◌, map, drop, option_map}
use Rattle.serde_json.specs.View.{view}
use Rattle.ev_dns.specs.Lines.{all_names}
use Rattle.ev_dns.proofs.names.read_all.Given as goal

-- what the rest reads as comes after what was read
abbrev pub invariant-loop-element : goal.invariant-loop-element
invariant-loop-element l =
    all_names (map view l.elements) ≡ option_map (λ rest. l.names.items ++ rest) (all_names (map view (drop l.element-index l.elements)))
