use Rattle.std.proofs.Common.{◌∙◌, ap, ◌∷◌, [], true, length, nat_eq}
use Rattle.ev_tree.specs.Forms.{is_wrong, is_given, given_or, inside}
use Rattle.ev_tree.specs.Broken.{either_broken, broken_where}
use Rattle.ev_tree.specs.Counts.{more_than_one}
use Rattle.ev_tree.proofs.Outcomes.{or_same}
use Rattle.ev_route_json.specs.Conditions.{matched_name_of, string_match_of, string_matcher_of, string_matcher_broken, query_test_with, query_matcher_of, query_matcher_broken}
use Rattle.ev_route_json.proofs.query_matchers.inspect_query_matcher.Goals as goal

pub returns-clause-value : goal.returns-clause-value
unfolding query_matcher_of matched_name_of string_match_of
returns-clause-value c =
    let text = c.text_or_empty-text.ensures ∙ ap (given_or []) c.in_ok-name.ensures.value in
    let by_string = c.is_given-4.ensures ∙ c.in_ok-string.ensures.given in
    let matcher = c.in_ok-matcher.ensures.value ∙ ap string_matcher_of (c.inner.ensures ∙ ap inside c.in_ok-string.ensures.value) in
    let there = c.given_or.ensures ∙ ap (given_or true) c.in_ok-present.ensures in
    λ i. record {
      name = (c.in_ok-copied.ensures.bytes ∙ text) i;
      test = (c.query_test_with.ensures ∙ (λ j. query_test_with (by_string j) (matcher j) (there j))) i;
    }

pub returns-clause-broken : goal.returns-clause-broken
unfolding query_matcher_broken matched_name_of string_match_of
returns-clause-broken c =
    let text = c.text_or_empty-text.ensures ∙ ap (given_or []) c.in_ok-name.ensures.value in
    let by_string = c.is_given-3.ensures ∙ c.in_ok-string.ensures.given in
    let string = c.in_ok-matcher.ensures.broken ∙ ap string_matcher_broken (c.inner.ensures ∙ ap inside c.in_ok-string.ensures.value) in
    let below = c.only_if.ensures ∙ (λ i. broken_where (by_string i) (string i)) in
    c.or.ensures ∙ (λ i. either_broken (below i) (record (c.none.ensures i) {
      v6 = or_same (or_same
          (c.is_wrong.ensures ∙ c.in_ok-name.ensures.wrong)
          (c.is_wrong-2.ensures ∙ c.in_ok-string.ensures.wrong))
          (c.is_wrong-3.ensures ∙ ap is_wrong c.in_ok-present.ensures) i;
      v21 = or_same
          (c.is_empty.ensures ∙ ap (λ s. nat_eq (length s) 0) text)
          (c.more_than_one.ensures ∙ (λ j. more_than_one (
          (c.is_given.ensures ∙ c.in_ok-string.ensures.given) j ∷ (c.is_given-2.ensures ∙ ap is_given c.in_ok-present.ensures) j ∷ []))) i;
    }))
