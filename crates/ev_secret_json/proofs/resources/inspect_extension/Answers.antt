use Rattle.std.proofs.Common.{◌∙◌, [], ap, codes}
use Rattle.ev_tree.specs.Forms.{is_wrong, given_or, inside, text_of}
use Rattle.ev_tree.proofs.Outcomes.{or_same, not_same}
use Rattle.ev_secret_json.specs.Resources.{typed_config_of, has_type, config_broken}
use Rattle.ev_secret_json.proofs.resources.inspect_extension.Goals as goal

pub returns : goal.returns
unfolding typed_config_of config_broken
returns c =
    let config = c.inner.ensures ∙ ap inside c.in_ok-config.ensures.value in
    let kind = c.text_or_empty.ensures ∙ ap (given_or []) (c.in_ok-kind.ensures.value ∙ ap (text_of (codes "@type")) config) in
    λ i. record (c.none.ensures i) {
      v6 = or_same (or_same
          (c.is_wrong.ensures ∙ c.in_ok-name.ensures.wrong)
          (c.is_wrong-2.ensures ∙ c.in_ok-config.ensures.wrong))
          (c.is_wrong-3.ensures ∙ c.in_ok-kind.ensures.wrong ∙ ap (λ t. is_wrong (text_of (codes "@type") t)) config) i;
      v29 = not_same (c.has_type.ensures ∙ ap has_type kind) i;
    }
