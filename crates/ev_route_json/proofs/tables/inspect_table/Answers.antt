use Rattle.std.proofs.Common.{◌∙◌, ap, map}
use Rattle.ev_tree.specs.Forms.{listed}
use Rattle.ev_tree.specs.Broken.{either_broken, any_broken}
use Rattle.ev_tree.proofs.Outcomes.{or_same}
use Rattle.ev_route_json.specs.Domains.{repeats_domain}
use Rattle.ev_route_json.specs.Tables.{virtual_host_of, virtual_host_broken, virtual_hosts_of, table_of, table_broken}
use Rattle.ev_route_json.proofs.tables.inspect_table.Goals as goal

pub returns-clause-value : goal.returns-clause-value
unfolding virtual_hosts_of table_of
returns-clause-value c =
    let hosts = c.elements.ensures ∙ ap listed c.in_ok-hosts.ensures.value in
    λ i. record { hosts = (c.from_vec.ensures.elements ∙ c.in_ok-below.ensures.values ∙ ap (map (virtual_host_of c.args.profile)) hosts) i }

pub returns-clause-broken : goal.returns-clause-broken
unfolding virtual_hosts_of table_broken
returns-clause-broken c =
    let hosts = c.elements.ensures ∙ ap listed c.in_ok-hosts.ensures.value in
    let below = c.in_ok-below.ensures.broken ∙ ap (any_broken (virtual_host_broken c.args.profile)) hosts in
    c.or.ensures ∙ (λ i. either_broken (below i) (record (c.none.ensures i) {
      v6 = or_same (c.is_wrong.ensures ∙ c.in_ok-name.ensures.wrong) (c.is_wrong-2.ensures ∙ c.in_ok-hosts.ensures.wrong) i;
      v20 = (c.in_ok-repeats.ensures ∙ ap repeats_domain (c.as_slice.ensures.value ∙ c.in_ok-below.ensures.values ∙ ap (map (virtual_host_of c.args.profile)) hosts)) i;
    }))
