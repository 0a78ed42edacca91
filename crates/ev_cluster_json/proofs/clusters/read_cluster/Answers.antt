use Rattle.std.proofs.Common.{◌≡◌, ◌∙◌, None, Ok, ap, sym}
use Rattle.std.proofs.lemmas.Option.{same_Some}
use Rattle.std.specs.Option.{is_some}
use Rattle.serde_json.specs.View.{view}
use Rattle.ev_tree.specs.Rules.{judged}
use Rattle.ev_tree.specs.Broken.{least_of}
use Rattle.ev_cluster_json.specs.Clusters.{cluster_broken, cluster_of, is_by_eds, is_in_cluster, asks_hosts, holds_hosts}
use Rattle.ev_cluster_json.proofs.ClusterMade.{rules_agree, made_from}
use Rattle.ev_cluster_json.proofs.clusters.read_cluster.Goals as goal

pub returns-in-Some : goal.returns-in-Some
returns-in-Some c =
    let profile = c.args.profile in
    let tree = view c.args.value.now in
    let own = c.in_ok-own.ensures in
    let asks : c.is_by_eds-by_eds.result ≡ asks_hosts profile tree = c.is_by_eds-by_eds.ensures ∙ (λ i. is_by_eds profile (own.custom i) (own.kind i)) in
    let holds : c.is_in_cluster-in_cluster.result ≡ holds_hosts profile tree = c.is_in_cluster-in_cluster.ensures ∙ (λ i. is_in_cluster profile (own.custom i) (own.kind i)) in
    let agree = rules_agree profile tree _ _ _ _ _ _ _ _ _ asks holds own.broken c.in_ok-eds.ensures.broken c.in_ok-hosts.ensures.broken c.in_ok-secrets.ensures c.or.ensures c.or-2.ensures c.or-broken.ensures in
    ap (λ rule. judged rule (cluster_of profile tree)) (ap least_of (sym agree) ∙ sym c.least.ensures ∙ c.in-Some.is)

pub unwrap-requires : goal.unwrap-requires
unwrap-requires c =
    let profile = c.args.profile in
    let tree = view c.args.value.now in
    let own = c.in_ok-own.ensures in
    let eds = c.in_ok-eds.ensures in
    let hosts = c.in_ok-hosts.ensures in
    let asks : c.is_by_eds-by_eds.result ≡ asks_hosts profile tree = c.is_by_eds-by_eds.ensures ∙ (λ i. is_by_eds profile (own.custom i) (own.kind i)) in
    let holds : c.is_in_cluster-in_cluster.result ≡ holds_hosts profile tree = c.is_in_cluster-in_cluster.ensures ∙ (λ i. is_in_cluster profile (own.custom i) (own.kind i)) in
    let agree = rules_agree profile tree _ _ _ _ _ _ _ _ _ asks holds own.broken eds.broken hosts.broken c.in_ok-secrets.ensures c.or.ensures c.or-2.ensures c.or-broken.ensures in
    let none : least_of (cluster_broken profile tree) ≡ None = ap least_of (sym agree) ∙ sym c.least.ensures ∙ c.in_default.is in
    ap is_some (made_from profile tree _ _ _ _ _ _ _ _ _ _ _ _ _ none own.name eds.service_name asks holds eds.limited c.is_envoy.ensures own.checked hosts.rows c.choose_service-service.ensures c.in_ok-discovery.ensures c.in_ok-secrets.ensures c.in_ok-text.ensures c.in_ok-cluster.ensures)

pub returns : goal.returns
returns c =
    let profile = c.args.profile in
    let tree = view c.args.value.now in
    let own = c.in_ok-own.ensures in
    let eds = c.in_ok-eds.ensures in
    let hosts = c.in_ok-hosts.ensures in
    let asks : c.is_by_eds-by_eds.result ≡ asks_hosts profile tree = c.is_by_eds-by_eds.ensures ∙ (λ i. is_by_eds profile (own.custom i) (own.kind i)) in
    let holds : c.is_in_cluster-in_cluster.result ≡ holds_hosts profile tree = c.is_in_cluster-in_cluster.ensures ∙ (λ i. is_in_cluster profile (own.custom i) (own.kind i)) in
    let agree = rules_agree profile tree _ _ _ _ _ _ _ _ _ asks holds own.broken eds.broken hosts.broken c.in_ok-secrets.ensures c.or.ensures c.or-2.ensures c.or-broken.ensures in
    let none : least_of (cluster_broken profile tree) ≡ None = ap least_of (sym agree) ∙ sym c.least.ensures ∙ c.in_default.is in
    let made = made_from profile tree _ _ _ _ _ _ _ _ _ _ _ _ _ none own.name eds.service_name asks holds eds.limited c.is_envoy.ensures own.checked hosts.rows c.choose_service-service.ensures c.in_ok-discovery.ensures c.in_ok-secrets.ensures c.in_ok-text.ensures c.in_ok-cluster.ensures in
    ap (λ rule. judged rule (cluster_of profile tree)) none ∙ ap Ok (same_Some _ _ (sym made ∙ c.unwrap.ensures))
