use Rattle.std.proofs.Common.{◌∙◌, ◌&&◌, not, [], ap, nat_lt, length, codes}
use Rattle.ev_tree.specs.declared.limits.TheConstants.{MAX_NAME_BYTES}
use Rattle.ev_tree.specs.Forms.{inside, is_wrong, given_or, object_of, text_of}
use Rattle.ev_tree.specs.Broken.{either_broken, broken_where}
use Rattle.ev_tree.specs.Sources.{source_broken_in, source_is_limited}
use Rattle.ev_tree.proofs.Outcomes.{or_same}
use Rattle.ev_cluster_json.specs.Clusters.{eds_of, eds_source_of, service_name_of, eds_broken}
use Rattle.ev_cluster_json.proofs.parts.inspect_eds.Goals as goal

pub returns-clause-service_name : goal.returns-clause-service_name
unfolding eds_of service_name_of
returns-clause-service_name c =
    let eds = c.inner-inner.ensures ∙ ap inside c.in_ok-config.ensures.value in
    c.text_or_empty-service_name.ensures ∙ ap (given_or []) (c.in_ok-service.ensures.value ∙ ap (text_of (codes "service_name")) eds)

pub returns-clause-limited : goal.returns-clause-limited
unfolding eds_of eds_source_of
returns-clause-limited c =
    let eds = c.inner-inner.ensures ∙ ap inside c.in_ok-config.ensures.value in
    let source = c.inner.ensures ∙ ap inside (c.in_ok-source.ensures.value ∙ ap (object_of (codes "eds_config")) eds) in
    c.in_ok-from.ensures.limited ∙ ap source_is_limited source

pub returns-clause-broken : goal.returns-clause-broken
unfolding eds_of eds_source_of service_name_of eds_broken
returns-clause-broken c =
    let eds = c.inner-inner.ensures ∙ ap inside c.in_ok-config.ensures.value in
    let source = c.inner.ensures ∙ ap inside (c.in_ok-source.ensures.value ∙ ap (object_of (codes "eds_config")) eds) in
    let text = c.text_or_empty-service_name.ensures ∙ ap (given_or []) (c.in_ok-service.ensures.value ∙ ap (text_of (codes "service_name")) eds) in
    let given = c.is_given-2.ensures ∙ c.in_ok-config.ensures.given in
    let from = c.only_if.ensures ∙ (λ i. broken_where (given i) ((c.in_ok-from.ensures.broken ∙ ap (source_broken_in c.args.profile) source) i)) in
    c.or.ensures ∙ (λ i. either_broken (from i) (record (c.none.ensures i) {
      v2 = ap (λ s. nat_lt MAX_NAME_BYTES (length s)) text i;
      v6 = or_same (or_same
          (c.is_wrong.ensures ∙ c.in_ok-config.ensures.wrong)
          (c.is_wrong-2.ensures ∙ c.in_ok-source.ensures.wrong ∙ ap (λ t. is_wrong (object_of (codes "eds_config") t)) eds))
          (c.is_wrong-3.ensures ∙ c.in_ok-service.ensures.wrong ∙ ap (λ t. is_wrong (text_of (codes "service_name") t)) eds) i;
      v8 = ap (λ b. c.args.by_eds && b) (c.is_absent.ensures ∙ c.in_ok-config.ensures.absent) i;
      v9 = ap (λ b. not c.args.by_eds && b) (c.is_given.ensures ∙ c.in_ok-config.ensures.given) i;
    }))
