use Rattle.std.proofs.Common.{◌∙◌, ap, codes}
use Rattle.ev_tree.specs.Forms.{is_wrong, inside, text_of}
use Rattle.ev_tree.specs.Broken.{either_broken}
use Rattle.ev_tree.proofs.Outcomes.{or_same}
use Rattle.ev_listener_json.specs.Filters.{kind_in, filter_kind_of, config_of, config_serve, config_broken, filter_serve, filter_broken}
use Rattle.ev_listener_json.proofs.filters.inspect_filter.Goals as goal

pub returns-clause-value : goal.returns-clause-value
unfolding filter_serve filter_kind_of config_of
returns-clause-value c =
    let config = c.inner-inner.ensures ∙ ap inside c.in_ok-config.ensures.value in
    let kind = c.choose_kind.ensures ∙ ap kind_in (c.in_ok-name.ensures.value ∙ ap (text_of (codes "@type")) config) in
    c.in_ok-below.ensures.value ∙ (λ i. config_serve c.args.profile (kind i) (config i))

pub returns-clause-broken : goal.returns-clause-broken
unfolding filter_broken filter_kind_of config_of
returns-clause-broken c =
    let config = c.inner-inner.ensures ∙ ap inside c.in_ok-config.ensures.value in
    let kind = c.choose_kind.ensures ∙ ap kind_in (c.in_ok-name.ensures.value ∙ ap (text_of (codes "@type")) config) in
    let below = c.in_ok-below.ensures.broken ∙ (λ i. config_broken c.args.profile (kind i) (config i)) in
    c.or.ensures ∙ (λ i. either_broken (below i) (record (c.none.ensures i) {
      v6 = or_same
          (c.is_wrong.ensures ∙ c.in_ok-config.ensures.wrong)
          (c.is_wrong-2.ensures ∙ c.in_ok-name.ensures.wrong ∙ ap (λ t. is_wrong (text_of (codes "@type") t)) config) i;
    }))
