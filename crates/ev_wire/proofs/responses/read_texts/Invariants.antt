use Rattle.std.proofs.Common.{◌≡◌, map, take}
use Rattle.serde_json.specs.View.{view}
use Rattle.ev_tree.specs.Forms.{text_in}
use Rattle.ev_wire.proofs.responses.read_texts.Given as goal

abbrev pub invariant-loop-value : goal.invariant-loop-value
invariant-loop-value l = l.texts.items ≡ map text_in (map view (take l.value-index l.values))
