use Rattle.std.proofs.Common.{◌∙◌, ◌+◌, ℕ, map, min, take, ap, sym, refl}
use Rattle.std.specs.List.{sum_by}
use Rattle.std.proofs.lemmas.List.{take_all}
use Rattle.serde_json.specs.View.{view}
use Rattle.ev_cluster_json.specs.Assignments.{weight_of, host_broken}
use Rattle.ev_cluster_json.specs.Made.{host_rows}
use Rattle.ev_cluster_json.proofs.Gained.{gains_nothing, gains_more, gains_all, seen_more, sum_push, cap_more}
use Rattle.ev_cluster_json.proofs.groups.add_hosts.Goals as goal

pub loop-host-init : goal.loop-host-init
loop-host-init c = record { weight = refl; gains = gains_nothing c.args.tally.now }

pub loop-host-preserved : goal.loop-host-preserved
loop-host-preserved c =
    let hosts = c.args.hosts.now in
    let i = c.loop-host.host-index in
    let host = c.host-item.result in
    let seen = map view (take i hosts) in
    let more = seen_more hosts i host c.loop-host-test.true c.host-item.is in
    let cap : ℕ = 18446744073709551615 in
    record {
      weight =
          c.saturating_add-sum.ensures ∙ ap (λ n. min (c.loop-host.sum + n) cap) (c.from.ensures ∙ c.in_ok-weight.ensures.weight)
          ∙ cap_more (sum_by weight_of seen) c.loop-host.sum (weight_of (view host)) cap c.loop-host.invariant.weight
          ∙ ap (λ n. min n cap) (sym (sum_push weight_of seen (view host)) ∙ ap (sum_by weight_of) (sym more));
      gains = gains_more (host_broken c.args.profile) (host_rows c.args.profile c.args.rank) _ _ _ seen _ (view host) more c.loop-host.invariant.gains c.in_ok-weight.ensures.gains;
    }

pub returns-clause-weight : goal.returns-clause-weight
returns-clause-weight c =
    c.loop-host.invariant.weight
    ∙ ap (λ vs. min (sum_by weight_of (map view vs)) 18446744073709551615) (take_all c.loop-host.host-index c.args.hosts.now c.loop-host-test.false)

pub returns-clause-gains : goal.returns-clause-gains
returns-clause-gains c =
    gains_all (host_broken c.args.profile) (host_rows c.args.profile c.args.rank) _ _ c.args.hosts.now c.loop-host.host-index c.loop-host-test.false c.loop-host.invariant.gains
