use Rattle.std.proofs.Common.{◌∙◌, ap}
use Rattle.ev_tree.proofs.Outcomes.{or_same}
use Rattle.ev_route_json.specs.Conditions.{has_elements, is_open, open_wrong}
use Rattle.ev_route_json.proofs.conditions.inspect_open.Goals as goal

pub returns-clause-given : goal.returns-clause-given
unfolding is_open
returns-clause-given c = or_same (or_same (or_same
    (c.is_given.ensures ∙ c.in_ok-fraction.ensures.given)
    (c.is_given-2.ensures ∙ c.in_ok-certificate.ensures.given))
    (c.has_elements.ensures ∙ ap has_elements c.in_ok-metadata.ensures.value))
    (c.has_elements-2.ensures ∙ ap has_elements c.in_ok-state.ensures.value)

pub returns-clause-wrong : goal.returns-clause-wrong
unfolding open_wrong
returns-clause-wrong c = or_same (or_same (or_same
    (c.is_wrong.ensures ∙ c.in_ok-fraction.ensures.wrong)
    (c.is_wrong-2.ensures ∙ c.in_ok-certificate.ensures.wrong))
    (c.is_wrong-3.ensures ∙ c.in_ok-metadata.ensures.wrong))
    (c.is_wrong-4.ensures ∙ c.in_ok-state.ensures.wrong)
