use Rattle.std.proofs.Common.{◌∙◌, ap, [], false, length, nat_eq}
use Rattle.std.specs.Str.{str_to_ascii_lowercase}
use Rattle.ev_tree.specs.Forms.{is_wrong, given_or}
use Rattle.ev_tree.specs.Broken.{either_broken}
use Rattle.ev_tree.proofs.Outcomes.{or_same}
use Rattle.ev_route_json.specs.Matches.{is_false}
use Rattle.ev_route_json.specs.Conditions.{matched_name_of, turned_over, header_matcher_of, header_matcher_broken}
use Rattle.ev_route_json.proofs.header_matchers.inspect_header_matcher.Goals as goal

pub returns-clause-value : goal.returns-clause-value
unfolding header_matcher_of matched_name_of
returns-clause-value c =
    let text = c.text_or_empty-text.ensures ∙ ap (given_or []) c.in_ok-name.ensures.value in
    let absent = c.is_false.ensures ∙ ap is_false c.in_ok-present.ensures in
    let invert = c.given_or.ensures ∙ ap (given_or false) c.in_ok-invert.ensures in
    λ i. record {
      name = (c.in_ok-lowered.ensures ∙ ap str_to_ascii_lowercase text) i;
      test = c.in_ok-test.ensures.value i;
      invert_match = (c.turned_over.ensures ∙ (λ j. turned_over (absent j) (invert j))) i;
      treat_missing_header_as_empty = (c.given_or-2.ensures ∙ ap (given_or false) c.in_ok-as_empty.ensures) i;
    }

pub returns-clause-broken : goal.returns-clause-broken
unfolding header_matcher_broken matched_name_of
returns-clause-broken c =
    let text = c.text_or_empty-text.ensures ∙ ap (given_or []) c.in_ok-name.ensures.value in
    c.or.ensures ∙ (λ i. either_broken (c.in_ok-test.ensures.broken i) (record (c.none.ensures i) {
      v6 = or_same (or_same
          (c.is_wrong.ensures ∙ c.in_ok-name.ensures.wrong)
          (c.is_wrong-2.ensures ∙ ap is_wrong c.in_ok-invert.ensures))
          (c.is_wrong-3.ensures ∙ ap is_wrong c.in_ok-as_empty.ensures) i;
      v21 = (c.is_empty.ensures ∙ ap (λ s. nat_eq (length s) 0) text) i;
    }))
