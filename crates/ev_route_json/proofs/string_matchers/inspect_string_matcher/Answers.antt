use Rattle.std.proofs.Common.{◌∙◌, ap, ◌∷◌, [], false}
use Rattle.ev_tree.specs.Forms.{is_wrong, given_or}
use Rattle.ev_tree.proofs.Outcomes.{or_same, not_same}
use Rattle.ev_tree.specs.Counts.{exactly_one}
use Rattle.ev_route_json.specs.Targets.{is_empty_text}
use Rattle.ev_route_json.specs.Conditions.{pattern_with, matcher_with, string_matcher_of, string_matcher_broken}
use Rattle.ev_route_json.proofs.string_matchers.inspect_string_matcher.Goals as goal

pub returns-clause-value : goal.returns-clause-value
unfolding string_matcher_of
returns-clause-value c =
    let pattern = c.in_ok-pattern.ensures ∙ (λ j. pattern_with (c.in_ok-patterns.ensures.exact.value j) (c.in_ok-patterns.ensures.prefix.value j) (c.in_ok-patterns.ensures.suffix.value j) (c.in_ok-patterns.ensures.contains.value j)) in
    let ignore = c.given_or.ensures ∙ ap (given_or false) c.in_ok-ignore_case.ensures in
    c.matcher_with.ensures ∙ (λ i. matcher_with (pattern i) (ignore i))

pub returns-clause-broken : goal.returns-clause-broken
unfolding string_matcher_broken
returns-clause-broken c = λ i. record (c.none.ensures i) {
  v6 = or_same (or_same (or_same (or_same (or_same (or_same
      (c.is_wrong.ensures ∙ c.in_ok-patterns.ensures.exact.wrong)
      (c.is_wrong-2.ensures ∙ c.in_ok-patterns.ensures.prefix.wrong))
      (c.is_wrong-3.ensures ∙ c.in_ok-patterns.ensures.suffix.wrong))
      (c.is_wrong-4.ensures ∙ c.in_ok-patterns.ensures.contains.wrong))
      (c.is_wrong-5.ensures ∙ c.in_ok-regex.ensures.wrong))
      (c.is_wrong-6.ensures ∙ c.in_ok-custom.ensures.wrong))
      (c.is_wrong-7.ensures ∙ ap is_wrong c.in_ok-ignore_case.ensures) i;
  v21 = or_same (or_same (or_same
      (not_same (c.exactly_one.ensures ∙ (λ j. exactly_one (
      (c.is_given.ensures ∙ c.in_ok-patterns.ensures.exact.given) j ∷ (c.is_given-2.ensures ∙ c.in_ok-patterns.ensures.prefix.given) j ∷ (c.is_given-3.ensures ∙ c.in_ok-patterns.ensures.suffix.given) j
      ∷ (c.is_given-4.ensures ∙ c.in_ok-patterns.ensures.contains.given) j ∷ (c.is_given-5.ensures ∙ c.in_ok-regex.ensures.given) j ∷ (c.is_given-6.ensures ∙ c.in_ok-custom.ensures.given) j ∷ []))))
      (c.is_empty_text.ensures ∙ ap is_empty_text c.in_ok-patterns.ensures.prefix.value))
      (c.is_empty_text-2.ensures ∙ ap is_empty_text c.in_ok-patterns.ensures.suffix.value))
      (c.is_empty_text-3.ensures ∙ ap is_empty_text c.in_ok-patterns.ensures.contains.value) i;
}
