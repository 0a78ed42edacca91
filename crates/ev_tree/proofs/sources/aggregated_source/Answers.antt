use Rattle.std.proofs.Common.{◌∙◌, ap}
use Rattle.ev_tree.specs.Sources.{source_broken, one_of}
use Rattle.ev_tree.specs.Spans.{is_negative}
use Rattle.ev_tree.specs.Forms.{is_wrong}
use Rattle.ev_tree.proofs.Outcomes.{or_same, not_same}
use Rattle.ev_tree.proofs.sources.aggregated_source.Goals as goal

pub returns-clause-broken : goal.returns-clause-broken
unfolding source_broken
returns-clause-broken c = λ i. record (c.none.ensures i) {
  v6 = or_same (or_same (or_same (or_same (or_same
      (c.is_wrong.ensures ∙ c.in_ok-ads.ensures.wrong)
      (c.is_wrong-2.ensures ∙ c.in_ok-own.ensures.wrong))
      (c.is_wrong-3.ensures ∙ ap is_wrong c.in_ok-timeout.ensures))
      (c.is_wrong-4.ensures ∙ c.in_ok-path.ensures.wrong))
      (c.is_wrong-5.ensures ∙ c.in_ok-watched_path.ensures.wrong))
      (c.is_wrong-6.ensures ∙ c.in_ok-api.ensures.wrong) i;
  v10 = or_same (or_same
      (not_same (c.is_one.ensures ∙ ap (λ b. one_of b c.is_given-5.result) (c.is_given-4.ensures ∙ c.in_ok-ads.ensures.given) ∙ ap (one_of _) (c.is_given-5.ensures ∙ c.in_ok-own.ensures.given)))
      (or_same (or_same
      (c.is_given.ensures ∙ c.in_ok-path.ensures.given)
      (c.is_given-2.ensures ∙ c.in_ok-watched_path.ensures.given))
      (c.is_given-3.ensures ∙ c.in_ok-api.ensures.given)))
      (c.is_negative.ensures ∙ ap is_negative c.in_ok-timeout.ensures) i;
}
