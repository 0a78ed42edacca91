use Rattle.std.proofs.Common.{◌∙◌, ap, [], length, nat_eq}
use Rattle.ev_tree.specs.Forms.{is_wrong, given_or}
use Rattle.ev_tree.proofs.Outcomes.{or_same, and_same, not_same}
use Rattle.ev_route_json.specs.Targets.{entry_of, envoy_entry_broken, has_text}
use Rattle.ev_route_json.proofs.targets.inspect_envoy_entry.Goals as goal

pub returns-clause-value : goal.returns-clause-value
unfolding entry_of
returns-clause-value c = λ i. record {
  name = (c.in_ok-new.ensures.bytes ∙ c.text_or_empty-text.ensures ∙ ap (given_or []) c.in_ok-name.ensures.value) i;
  weight = (c.given_or.ensures ∙ ap (given_or 0) c.in_ok-weight.ensures) i;
}

pub returns-clause-broken : goal.returns-clause-broken
unfolding envoy_entry_broken
returns-clause-broken c = λ i. record (c.none.ensures i) {
  v6 = or_same (or_same
      (c.is_wrong.ensures ∙ c.in_ok-name.ensures.wrong)
      (c.is_wrong-2.ensures ∙ ap is_wrong c.in_ok-weight.ensures))
      (c.is_wrong-3.ensures ∙ c.in_ok-header.ensures.wrong) i;
  v23 = and_same
      (not_same (c.has_text.ensures ∙ ap has_text c.in_ok-header.ensures.value))
      (c.is_empty.ensures ∙ ap (λ s. nat_eq (length s) 0) (c.text_or_empty-text.ensures ∙ ap (given_or []) c.in_ok-name.ensures.value)) i;
}
