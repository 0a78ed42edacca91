use Rattle.std.proofs.Common.{◌∙◌, ap, sym, length, nat_eq}
use Rattle.std.proofs.lemmas.List.{length-map}
use Rattle.serde_json.specs.View.{view}
use Rattle.ev_tree.proofs.Outcomes.{not_same}
use Rattle.ev_route_json.proofs.conditions.has_elements.Goals as goal

pub returns : goal.returns
returns c = not_same (c.is_empty.ensures ∙ ap (λ n. nat_eq n 0) (sym (length-map c.elements.result.now view) ∙ ap length c.elements.ensures))
