use Rattle.std.proofs.Common.{◌∙◌, ap, nat_eq, length}
use Rattle.ev_route_json.specs.Presence.{has_no_items}
use Rattle.ev_route_json.proofs.Fields.{has_no_items-view}
use Rattle.ev_route_json.proofs.presence.is_empty_array.Goals as goal

pub returns-in-Some : goal.returns-in-Some
returns-in-Some c =
    c.is_empty.ensures ∙ ap (λ vs. nat_eq (length vs) 0) c.as_slice.ensures.value ∙ has_no_items-view c.in-Some.elements.now.items ∙ ap has_no_items c.in-Some.ensures
