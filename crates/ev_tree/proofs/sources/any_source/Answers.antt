use Rattle.std.proofs.Common.{◌∙◌, ◌∷◌, [], ap}
use Rattle.ev_tree.specs.Counts.{exactly_one}
use Rattle.ev_tree.specs.Sources.{any_source_broken}
use Rattle.ev_tree.specs.Spans.{is_negative}
use Rattle.ev_tree.proofs.Outcomes.{or_same, not_same}
use Rattle.ev_tree.proofs.sources.any_source.Goals as goal

pub returns-clause-broken : goal.returns-clause-broken
unfolding any_source_broken
returns-clause-broken c = λ i. record (c.in_ok-read.ensures.broken i) {
  v10 = or_same
      (not_same (c.exactly_one.ensures ∙ (λ j. exactly_one (
      (c.is_given.ensures ∙ c.in_ok-ads.ensures.given) j
      ∷ (c.is_given-2.ensures ∙ c.in_ok-own.ensures.given) j
      ∷ (c.is_given-3.ensures ∙ c.in_ok-path.ensures.given) j
      ∷ (c.is_given-4.ensures ∙ c.in_ok-watched_path.ensures.given) j
      ∷ (c.is_given-5.ensures ∙ c.in_ok-api.ensures.given) j
      ∷ []))))
      (c.is_negative.ensures ∙ ap is_negative c.in_ok-timeout.ensures) i;
}
