use Rattle.std.proofs.Common.{◌∙◌, List, OnOk, sym, subst}
use Rattle.ev_types.specs.Hosts.{HostRowParts}
use Rattle.ev_indexes.specs.KeptEndpoints.{Trims}
use Rattle.ev_indexes.specs.Ready.{assignment_in, discovered_in}
use Rattle.ev_warming.proofs.forgetting.trim_hosts.Goals as goal

pub returns-in-Eds-clause-results : goal.returns-in-Eds-clause-results
returns-in-Eds-clause-results c =
    let w = c.args.watches.now in
    subst (λ (rows : List HostRowParts). OnOk c.trim_value.result (Trims c.args.results.now c.trim_value.new.results c.args.number rows))
    (sym ((λ i. assignment_in w (c.in-Cluster.is i)) ∙ (λ i. discovered_in w (sym c.get.ensures.value i).discovery) ∙ (λ i. discovered_in w (c.in-Eds.is i))))
    c.trim_value.ensures.results
