use Rattle.std.proofs.Common.{◌∙◌, ap, nat_eq}
use Rattle.ev_tree.specs.Broken.{either_broken}
use Rattle.ev_tree.specs.Forms.{inside, is_wrong, given_or}
use Rattle.ev_tree.specs.Addresses.{text_in_profile, port_in_profile, address_broken_in}
use Rattle.ev_tree.proofs.Outcomes.{or_same}
use Rattle.ev_cluster_json.specs.Assignments.{endpoint_of, weight_of, is_usable, is_usable_status, host_broken}
use Rattle.ev_cluster_json.specs.Made.{row_with, made_row}
use Rattle.ev_cluster_json.proofs.hosts.inspect_host.Goals as goal

pub returns-clause-row : goal.returns-clause-row
unfolding endpoint_of weight_of is_usable made_row
returns-clause-row c =
    let endpoint = c.inner.ensures ∙ ap inside c.in_ok-endpoint.ensures.value in
    let address = c.in_ok-address.ensures.text ∙ ap (text_in_profile c.args.profile) endpoint in
    let port = c.in_ok-address.ensures.port ∙ ap (port_in_profile c.args.profile) endpoint in
    let weight = c.given_or-weight.ensures ∙ ap (given_or 1) c.in_ok-given_weight.ensures in
    let usable = c.is_usable-usable.ensures ∙ ap is_usable_status (c.given_or.ensures ∙ ap (given_or 0) c.in_ok-status.ensures) in
    c.in_ok-make_row.ensures ∙ (λ i. row_with (address i) (port i) (weight i) c.args.priority (usable i))

pub returns-clause-weight : goal.returns-clause-weight
unfolding weight_of
returns-clause-weight c = c.given_or-weight.ensures ∙ ap (given_or 1) c.in_ok-given_weight.ensures

pub returns-clause-broken : goal.returns-clause-broken
unfolding endpoint_of weight_of host_broken
returns-clause-broken c =
    let endpoint = c.inner.ensures ∙ ap inside c.in_ok-endpoint.ensures.value in
    let address = c.in_ok-address.ensures.broken ∙ ap (address_broken_in c.args.profile) endpoint in
    c.or.ensures ∙ (λ i. either_broken (address i) (record (c.none.ensures i) {
      v6 = or_same (or_same
          (c.is_wrong.ensures ∙ c.in_ok-endpoint.ensures.wrong)
          (c.is_wrong-2.ensures ∙ ap is_wrong c.in_ok-status.ensures))
          (c.is_wrong-3.ensures ∙ ap is_wrong c.in_ok-given_weight.ensures) i;
      v13 = ap (λ n. nat_eq n 0) (c.given_or-weight.ensures ∙ ap (given_or 1) c.in_ok-given_weight.ensures) i;
    }))
