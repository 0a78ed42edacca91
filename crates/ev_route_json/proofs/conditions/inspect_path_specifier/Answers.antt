use Rattle.std.proofs.Common.{◌∙◌, ap, ◌∷◌, []}
use Rattle.ev_tree.specs.Forms.{is_wrong}
use Rattle.ev_tree.proofs.Outcomes.{or_same, not_same}
use Rattle.ev_tree.specs.Counts.{exactly_one}
use Rattle.ev_route_json.specs.Matches.{path_of, path_with, is_false, separated_is_bad}
use Rattle.ev_route_json.specs.Conditions.{specifier_with, path_specifier_of, path_specifier_broken}
use Rattle.ev_route_json.proofs.conditions.inspect_path_specifier.Goals as goal

pub returns-clause-value : goal.returns-clause-value
unfolding path_specifier_of path_of
returns-clause-value c =
    let connects = c.is_given-connects.ensures ∙ c.in_ok-connect.ensures.given in
    let undecided = or_same (c.is_given-by_regex.ensures ∙ c.in_ok-regex.ensures.given) (c.is_given-by_policy.ensures ∙ c.in_ok-policy.ensures.given) in
    let folds = c.is_false.ensures ∙ ap is_false c.in_ok-sensitive.ensures in
    let path = c.in_ok-made.ensures ∙ (λ j. path_with (c.in_ok-prefix.ensures.value j) (c.in_ok-path.ensures.value j) (c.in_ok-separated.ensures.value j)) in
    c.specifier_with.ensures ∙ (λ i. specifier_with (connects i) (undecided i) (folds i) (path i))

pub returns-clause-broken : goal.returns-clause-broken
unfolding path_specifier_broken
returns-clause-broken c = λ i. record (c.none.ensures i) {
  v6 = or_same (or_same (or_same (or_same (or_same (or_same
      (c.is_wrong.ensures ∙ c.in_ok-prefix.ensures.wrong)
      (c.is_wrong-2.ensures ∙ c.in_ok-path.ensures.wrong))
      (c.is_wrong-3.ensures ∙ c.in_ok-separated.ensures.wrong))
      (c.is_wrong-4.ensures ∙ c.in_ok-regex.ensures.wrong))
      (c.is_wrong-5.ensures ∙ c.in_ok-connect.ensures.wrong))
      (c.is_wrong-6.ensures ∙ c.in_ok-policy.ensures.wrong))
      (c.is_wrong-7.ensures ∙ ap is_wrong c.in_ok-sensitive.ensures) i;
  v21 = or_same
      (not_same (c.exactly_one.ensures ∙ (λ j. exactly_one (
      (c.is_given.ensures ∙ c.in_ok-prefix.ensures.given) j ∷ (c.is_given-2.ensures ∙ c.in_ok-path.ensures.given) j ∷ (c.is_given-3.ensures ∙ c.in_ok-separated.ensures.given) j
      ∷ (c.is_given-by_regex.ensures ∙ c.in_ok-regex.ensures.given) j ∷ (c.is_given-connects.ensures ∙ c.in_ok-connect.ensures.given) j ∷ (c.is_given-by_policy.ensures ∙ c.in_ok-policy.ensures.given) j ∷ []))))
      (c.separated_is_bad.ensures ∙ ap separated_is_bad c.in_ok-separated.ensures.value) i;
}
