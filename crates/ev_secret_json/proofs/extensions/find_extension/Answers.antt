use Rattle.std.proofs.Common.{◌∙◌, ap, [], false, codes}
use Rattle.ev_types.specs.declared.events.Profile.TheVariants.{Envoy}
use Rattle.ev_tree.specs.Forms.{is_wrong, is_given, given_or, inside, object_of, boolean_of}
use Rattle.ev_tree.specs.Broken.{either_broken, broken_where}
use Rattle.ev_tree.specs.Sources.{source_broken_in, source_is_limited}
use Rattle.ev_tree.proofs.Outcomes.{or_same, and_same, not_same}
use Rattle.ev_secret_json.specs.References.{reference_with, is_bad_name}
use Rattle.ev_secret_json.specs.Extensions.{discovery_of, extension_source_of, goes_by_default, extension_broken, filter_extension}
use Rattle.ev_secret_json.proofs.extensions.find_extension.Goals as goal

pub returns : goal.returns
unfolding discovery_of extension_source_of goes_by_default extension_broken filter_extension
returns c =
    let asks = c.is_given-asks.ensures ∙ c.in_ok-discovery.ensures.given in
    let discovery = c.inner-inner.ensures ∙ ap inside c.in_ok-discovery.ensures.value in
    let source = c.inner.ensures ∙ ap inside (c.in_ok-source.ensures.value ∙ ap (object_of (codes "config_source")) discovery) in
    let at_once = c.in_ok-at_once.ensures ∙ ap (boolean_of (codes "apply_default_config_without_warming")) discovery in
    let waits = not_same (and_same
    (c.is_given.ensures ∙ c.in_ok-default.ensures.given ∙ ap (λ t. is_given (object_of (codes "default_config") t)) discovery)
    (c.given_or.ensures ∙ ap (given_or false) at_once)) in
    let text = c.text_or_empty-text.ensures ∙ ap (given_or []) c.in_ok-name.ensures.value in
    let limited = c.in_ok-from.ensures.limited ∙ ap source_is_limited source in
    let judged = not_same (c.is_absent-judged.ensures ∙ c.in_ok-discovery.ensures.absent) in
    let from = c.only_if.ensures ∙ (λ i. broken_where (asks i) ((c.in_ok-from.ensures.broken ∙ ap (source_broken_in Envoy) source) i)) in
    λ i. record {
      list = (c.in_ok-make_reference.ensures ∙ (λ j. reference_with (and_same asks waits j) (text j) (limited j))) i;
      broken = (c.or.ensures ∙ (λ j. either_broken (from j) (record (c.none.ensures j) {
        v2 = (c.is_bad_name.ensures ∙ (λ k. is_bad_name (judged k) (c.in_ok-name.ensures.value k))) j;
        v6 = or_same (or_same (or_same (or_same
            (c.is_wrong.ensures ∙ c.in_ok-discovery.ensures.wrong)
            (c.is_wrong-2.ensures ∙ c.in_ok-source.ensures.wrong ∙ ap (λ t. is_wrong (object_of (codes "config_source") t)) discovery))
            (c.is_wrong-3.ensures ∙ c.in_ok-default.ensures.wrong ∙ ap (λ t. is_wrong (object_of (codes "default_config") t)) discovery))
            (c.is_wrong-4.ensures ∙ ap is_wrong at_once))
            (and_same judged (c.is_wrong-5.ensures ∙ c.in_ok-name.ensures.wrong)) j;
      }))) i;
    }
