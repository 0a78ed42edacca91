use Rattle.std.proofs.Common.{◌∙◌, ◌∷◌, []}
use Rattle.ev_tree.specs.Counts.{exactly_one}
use Rattle.ev_tree.proofs.Outcomes.{or_same, not_same}
use Rattle.ev_secret_json.specs.Resources.{secret_broken}
use Rattle.ev_secret_json.proofs.resources.inspect_secret.Goals as goal

pub returns : goal.returns
unfolding secret_broken
returns c = λ i. record (c.none.ensures i) {
  v6 = or_same (or_same (or_same (or_same
      (c.is_wrong.ensures ∙ c.in_ok-name.ensures.wrong)
      (c.is_wrong-2.ensures ∙ c.in_ok-certificate.ensures.wrong))
      (c.is_wrong-3.ensures ∙ c.in_ok-keys.ensures.wrong))
      (c.is_wrong-4.ensures ∙ c.in_ok-validation.ensures.wrong))
      (c.is_wrong-5.ensures ∙ c.in_ok-generic.ensures.wrong) i;
  v28 = not_same (c.exactly_one.ensures ∙ (λ j. exactly_one (
      (c.is_given.ensures ∙ c.in_ok-certificate.ensures.given) j
      ∷ (c.is_given-2.ensures ∙ c.in_ok-keys.ensures.given) j
      ∷ (c.is_given-3.ensures ∙ c.in_ok-validation.ensures.given) j
      ∷ (c.is_given-4.ensures ∙ c.in_ok-generic.ensures.given) j
      ∷ []))) i;
}
