use Rattle.std.proofs.Common.{◌∙◌, ap, [], is_some}
use Rattle.ev_tree.specs.Forms.{is_wrong, given_or}
use Rattle.ev_tree.proofs.Outcomes.{or_same, not_same}
use Rattle.ev_listener_json.specs.CidrRanges.{named_range, range_or_every, cidr_range_in, cidr_range_of, cidr_range_broken}
use Rattle.ev_listener_json.proofs.cidr_ranges.inspect_range.Goals as goal

pub returns-clause-value : goal.returns-clause-value
unfolding cidr_range_in cidr_range_of
returns-clause-value c =
    let text = c.text_or_empty.ensures ∙ ap (given_or []) c.in_ok-prefix.ensures.value in
    let count = c.given_or.ensures ∙ ap (given_or 0) c.in_ok-length.ensures in
    c.range_or_every.ensures ∙ ap range_or_every (c.name_range-found.ensures ∙ (λ i. named_range (text i) (count i)))

pub returns-clause-broken : goal.returns-clause-broken
unfolding cidr_range_in cidr_range_broken
returns-clause-broken c =
    let text = c.text_or_empty.ensures ∙ ap (given_or []) c.in_ok-prefix.ensures.value in
    let count = c.given_or.ensures ∙ ap (given_or 0) c.in_ok-length.ensures in
    λ i. record (c.none.ensures i) {
      v6 = or_same (c.is_wrong.ensures ∙ c.in_ok-prefix.ensures.wrong) (c.is_wrong-2.ensures ∙ ap is_wrong c.in_ok-length.ensures) i;
      v16 = not_same (c.is_some.ensures ∙ ap is_some (c.name_range-found.ensures ∙ (λ j. named_range (text j) (count j)))) i;
    }
