use Rattle.std.proofs.Common.{◌∙◌, ap, ◌∷◌, []}
use Rattle.ev_tree.specs.Forms.{is_wrong, is_given, inside}
use Rattle.ev_tree.specs.Broken.{none_broken, either_broken, broken_where}
use Rattle.ev_tree.proofs.Outcomes.{or_same}
use Rattle.ev_tree.specs.Counts.{more_than_one}
use Rattle.ev_route_json.specs.Targets.{is_empty_text}
use Rattle.ev_route_json.specs.Conditions.{pattern_with, string_matcher_of, string_matcher_broken, string_match_of, range_match_of, range_of, range_broken, test_parts_broken, header_test_with, header_test_of, header_test_broken}
use Rattle.ev_route_json.proofs.header_matchers.inspect_header_test.Goals as goal

pub returns-clause-value : goal.returns-clause-value
unfolding header_test_of string_match_of range_match_of
returns-clause-value c =
    let pattern = c.in_ok-pattern.ensures ∙ (λ j. pattern_with (c.in_ok-patterns.ensures.exact.value j) (c.in_ok-patterns.ensures.prefix.value j) (c.in_ok-patterns.ensures.suffix.value j) (c.in_ok-patterns.ensures.contains.value j)) in
    let by_string = c.is_given-by_string.ensures ∙ c.in_ok-string.ensures.given in
    let matcher = c.in_ok-matcher.ensures.value ∙ ap string_matcher_of (c.inner.ensures ∙ ap inside c.in_ok-string.ensures.value) in
    let by_range = c.is_given.ensures ∙ c.in_ok-range.ensures.given in
    let range = c.in_ok-numbers.ensures.value ∙ ap range_of (c.inner-2.ensures ∙ ap inside c.in_ok-range.ensures.value) in
    let by_regex = c.is_given-2.ensures ∙ c.in_ok-regex.ensures.given in
    c.header_test_with.ensures ∙ (λ i. header_test_with (pattern i) (by_string i) (matcher i) (by_range i) (range i) (by_regex i))

pub returns-clause-broken : goal.returns-clause-broken
unfolding header_test_broken test_parts_broken string_match_of range_match_of
returns-clause-broken c =
    let by_string = c.is_given-by_string.ensures ∙ c.in_ok-string.ensures.given in
    let string = c.in_ok-matcher.ensures.broken ∙ ap string_matcher_broken (c.inner.ensures ∙ ap inside c.in_ok-string.ensures.value) in
    let range = c.in_ok-numbers.ensures.broken ∙ ap range_broken (c.inner-2.ensures ∙ ap inside c.in_ok-range.ensures.value) in
    let below = c.only_if.ensures ∙ (λ i. broken_where (by_string i) (string i)) in
    let parts = c.or-parts.ensures ∙ (λ i. either_broken (below i) (range i)) in
    let found = c.in_ok-patterns.ensures in
    let present = c.in_ok-present.ensures in
    let own = c.judge_tests-own.ensures ∙ (λ i. record none_broken {
      v6 = or_same (or_same (or_same (or_same (or_same (or_same (or_same
          found.exact.wrong
          found.prefix.wrong)
          found.suffix.wrong)
          found.contains.wrong)
          (ap is_wrong present))
          c.in_ok-string.ensures.wrong)
          c.in_ok-regex.ensures.wrong)
          c.in_ok-range.ensures.wrong i;
      v21 = or_same (or_same (or_same
          (λ j. more_than_one (
          found.exact.given j ∷ found.prefix.given j ∷ found.suffix.given j ∷ found.contains.given j ∷ is_given (present j)
          ∷ c.in_ok-string.ensures.given j ∷ c.in_ok-regex.ensures.given j ∷ c.in_ok-range.ensures.given j ∷ []))
          (ap is_empty_text found.prefix.value))
          (ap is_empty_text found.suffix.value))
          (ap is_empty_text found.contains.value) i;
    }) in
    c.or.ensures ∙ (λ i. either_broken (parts i) (own i))
