use Rattle.std.proofs.Common.{◌∙◌, ap, not, []}
use Rattle.ev_types.specs.declared.events.Profile.TheVariants.{Envoy}
use Rattle.ev_tree.specs.Forms.{given_or, inside}
use Rattle.ev_tree.specs.Broken.{either_broken, broken_where}
use Rattle.ev_tree.specs.Sources.{source_broken_in, source_is_limited}
use Rattle.ev_tree.proofs.Outcomes.{or_same}
use Rattle.ev_secret_json.specs.References.{reference_with, is_bad_name}
use Rattle.ev_secret_json.specs.SecretConfigs.{secret_source_of, secret_config_broken, config_secret}
use Rattle.ev_secret_json.proofs.secret_configs.find_config_secret.Goals as goal

pub returns : goal.returns
unfolding secret_source_of secret_config_broken config_secret
returns c =
    let asks = c.is_given-asks.ensures ∙ c.in_ok-source.ensures.given in
    let source = c.inner.ensures ∙ ap inside c.in_ok-source.ensures.value in
    let text = c.text_or_empty-text.ensures ∙ ap (given_or []) c.in_ok-name.ensures.value in
    let limited = c.in_ok-from.ensures.limited ∙ ap source_is_limited source in
    let judged = c.is_absent.ensures ∙ c.in_ok-source.ensures.absent in
    let from = c.only_if.ensures ∙ (λ i. broken_where (asks i) ((c.in_ok-from.ensures.broken ∙ ap (source_broken_in Envoy) source) i)) in
    λ i. record {
      list = (c.in_ok-make_reference.ensures ∙ (λ j. reference_with (asks j) (text j) (limited j))) i;
      broken = (c.or.ensures ∙ (λ j. either_broken (from j) (record (c.none.ensures j) {
        v2 = (c.is_bad_name.ensures ∙ (λ k. is_bad_name (not (judged k)) (c.in_ok-name.ensures.value k))) j;
        v6 = or_same (c.is_wrong.ensures ∙ c.in_ok-name.ensures.wrong) (c.is_wrong-2.ensures ∙ c.in_ok-source.ensures.wrong) j;
      }))) i;
    }
