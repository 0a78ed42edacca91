use Rattle.std.proofs.Common.{◌∙◌, ◌||◌, ◌==◌, not, [], ap, sym, nat_eq, length}
use Rattle.std.proofs.lemmas.List.{length-map}
use Rattle.serde_json.specs.View.{view}
use Rattle.ev_tree.specs.Forms.{is_wrong, given_or, listed}
use Rattle.ev_tree.specs.Rules.{is_name}
use Rattle.ev_tree.specs.Spans.{is_not_positive}
use Rattle.ev_tree.proofs.Outcomes.{or_same, and_same, not_same}
use Rattle.ev_cluster_json.specs.declared.parts.TheConstants.{STATIC, EDS}
use Rattle.ev_cluster_json.specs.Clusters.{name_of, type_of, is_checked, cluster_own_broken}
use Rattle.ev_cluster_json.proofs.parts.inspect_own.Goals as goal

pub returns-clause-name : goal.returns-clause-name
unfolding name_of
returns-clause-name c = c.text_or_empty-name_text.ensures ∙ ap (given_or []) c.in_ok-name.ensures.value

pub returns-clause-kind : goal.returns-clause-kind
unfolding type_of
returns-clause-kind c = c.given_or-number.ensures ∙ ap (given_or STATIC) c.in_ok-kind.ensures

pub returns-clause-custom : goal.returns-clause-custom
returns-clause-custom c = c.is_given.ensures ∙ c.in_ok-custom.ensures.given

pub returns-clause-checked : goal.returns-clause-checked
unfolding is_checked
returns-clause-checked c =
    let checks = sym (length-map c.elements.result.now view) ∙ ap length (c.elements.ensures ∙ ap listed c.in_ok-checks.ensures.value) in
    not_same (c.is_empty.ensures ∙ ap (λ n. nat_eq n 0) checks)

pub returns-clause-broken : goal.returns-clause-broken
unfolding name_of type_of cluster_own_broken
returns-clause-broken c =
    let name = c.text_or_empty-name_text.ensures ∙ ap (given_or []) c.in_ok-name.ensures.value in
    let kind = c.given_or-number.ensures ∙ ap (given_or STATIC) c.in_ok-kind.ensures in
    λ i. record (c.none.ensures i) {
      v3 = and_same (not_same (c.is_wrong.ensures ∙ c.in_ok-name.ensures.wrong)) (not_same (c.is_name.ensures ∙ ap is_name name)) i;
      v6 = or_same (or_same (or_same (or_same
          (c.is_wrong-2.ensures ∙ c.in_ok-name.ensures.wrong)
          (c.is_wrong-3.ensures ∙ ap is_wrong c.in_ok-kind.ensures))
          (c.is_wrong-4.ensures ∙ c.in_ok-custom.ensures.wrong))
          (c.is_wrong-5.ensures ∙ ap is_wrong c.in_ok-timeout.ensures))
          (c.is_wrong-6.ensures ∙ c.in_ok-checks.ensures.wrong) i;
      v7 = and_same (not_same c.is_envoy.ensures) (or_same (ap (λ k. not (k == STATIC || k == EDS)) kind) (c.is_given-2.ensures ∙ c.in_ok-custom.ensures.given)) i;
      v11 = (c.is_not_positive.ensures ∙ ap is_not_positive c.in_ok-timeout.ensures) i;
    }
