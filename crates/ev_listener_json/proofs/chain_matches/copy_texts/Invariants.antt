use Rattle.std.proofs.Common.{◌≡◌, map, take}
use Rattle.serde_json.specs.View.{view}
use Rattle.ev_tree.specs.Forms.{text_in}
use Rattle.ev_listener_json.proofs.chain_matches.copy_texts.Given as goal

abbrev pub invariant-loop-element : goal.invariant-loop-element
invariant-loop-element l = l.texts.items ≡ map text_in (map view (take l.element-index l.elements))
