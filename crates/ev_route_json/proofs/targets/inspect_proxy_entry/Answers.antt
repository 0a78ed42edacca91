use Rattle.std.proofs.Common.{◌∙◌, ap, [], length, nat_eq}
use Rattle.ev_tree.specs.Forms.{is_wrong, given_or}
use Rattle.ev_tree.proofs.Outcomes.{or_same}
use Rattle.ev_route_json.specs.Targets.{entry_of, proxy_entry_broken}
use Rattle.ev_route_json.proofs.targets.inspect_proxy_entry.Goals as goal

pub returns-clause-value : goal.returns-clause-value
unfolding entry_of
returns-clause-value c = λ i. record {
  name = (c.in_ok-new.ensures.bytes ∙ c.text_or_empty-text.ensures ∙ ap (given_or []) c.in_ok-name.ensures.value) i;
  weight = (c.given_or.ensures ∙ ap (given_or 0) c.in_ok-weight.ensures) i;
}

pub returns-clause-broken : goal.returns-clause-broken
unfolding proxy_entry_broken
returns-clause-broken c = λ i. record (c.none.ensures i) {
  v6 = or_same
      (c.is_wrong.ensures ∙ c.in_ok-name.ensures.wrong)
      (c.is_wrong-2.ensures ∙ ap is_wrong c.in_ok-weight.ensures) i;
  v23 = (c.is_empty.ensures ∙ ap (λ s. nat_eq (length s) 0) (c.text_or_empty-text.ensures ∙ ap (given_or []) c.in_ok-name.ensures.value)) i;
}
