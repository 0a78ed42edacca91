use Rattle.std.proofs.Common.{◌∙◌, ap, [], codes}
use Rattle.ev_tree.specs.Forms.{is_wrong, given_or, inside, text_of}
use Rattle.ev_tree.proofs.Outcomes.{or_same}
use Rattle.ev_listener_json.specs.Filters.{config_of}
use Rattle.ev_listener_json.specs.ListenerFilters.{is_original_dst_by, is_original_dst, listener_filter_broken}
use Rattle.ev_listener_json.proofs.listener_filters.inspect_listener_filter.Goals as goal

pub returns-clause-value : goal.returns-clause-value
unfolding config_of is_original_dst
returns-clause-value c =
    let config = c.inner-inner.ensures ∙ ap inside c.in_ok-config.ensures.value in
    let type = c.text_or_empty-2.ensures ∙ ap (given_or []) (c.in_ok-kind.ensures.value ∙ ap (text_of (codes "@type")) config) in
    let name = c.text_or_empty.ensures ∙ ap (given_or []) c.in_ok-name.ensures.value in
    c.is_original_dst_by.ensures ∙ (λ i. is_original_dst_by ((c.is_absent.ensures ∙ c.in_ok-config.ensures.absent) i) (name i) (type i))

pub returns-clause-broken : goal.returns-clause-broken
unfolding config_of listener_filter_broken
returns-clause-broken c =
    let config = c.inner-inner.ensures ∙ ap inside c.in_ok-config.ensures.value in
    λ i. record (c.none.ensures i) {
      v6 = or_same
          (c.is_wrong.ensures ∙ c.in_ok-config.ensures.wrong)
          (c.is_wrong-2.ensures ∙ c.in_ok-kind.ensures.wrong ∙ ap (λ d. is_wrong (text_of (codes "@type") d)) config) i;
    }
