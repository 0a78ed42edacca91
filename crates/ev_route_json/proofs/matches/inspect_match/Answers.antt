use Rattle.std.proofs.Common.{◌∙◌, ap, ◌∷◌, []}
use Rattle.ev_tree.specs.Forms.{is_wrong}
use Rattle.ev_tree.proofs.Outcomes.{or_same, not_same}
use Rattle.ev_tree.specs.Counts.{exactly_one}
use Rattle.ev_route_json.specs.Matches.{path_of, path_with, match_broken, is_false, separated_is_bad}
use Rattle.ev_route_json.proofs.matches.inspect_match.Goals as goal

pub returns-clause-value : goal.returns-clause-value
unfolding path_of
returns-clause-value c =
    c.in_ok-make_path.ensures
    ∙ (λ i. path_with (c.in_ok-prefix.ensures.value i) (c.in_ok-path.ensures.value i) (c.in_ok-separated.ensures.value i))

pub returns-clause-broken : goal.returns-clause-broken
unfolding match_broken
returns-clause-broken c = λ i. record (c.none.ensures i) {
  v6 = or_same (or_same (or_same (or_same (or_same
      (c.is_wrong.ensures ∙ c.in_ok-prefix.ensures.wrong)
      (c.is_wrong-2.ensures ∙ c.in_ok-path.ensures.wrong))
      (c.is_wrong-3.ensures ∙ c.in_ok-separated.ensures.wrong))
      (c.is_wrong-4.ensures ∙ ap is_wrong c.in_ok-sensitive.ensures))
      c.in_ok-barred.ensures.doubled)
      c.in_ok-listed.ensures.doubled i;
  v21 = or_same (or_same (or_same (or_same
      (not_same (c.exactly_one.ensures ∙ (λ j. exactly_one
      ((c.is_given.ensures ∙ c.in_ok-prefix.ensures.given) j ∷ (c.is_given-2.ensures ∙ c.in_ok-path.ensures.given) j ∷ (c.is_given-3.ensures ∙ c.in_ok-separated.ensures.given) j ∷ []))))
      c.in_ok-barred.ensures.given)
      c.in_ok-listed.ensures.filled)
      (c.is_false.ensures ∙ ap is_false c.in_ok-sensitive.ensures))
      (c.separated_is_bad.ensures ∙ ap separated_is_bad c.in_ok-separated.ensures.value) i;
}
