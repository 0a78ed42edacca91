use Rattle.std.proofs.Common.{◌∙◌, ◌||◌, ◌++◌, ap, map, nat_lt}
use Rattle.serde_json.specs.View.{view}
use Rattle.ev_tree.specs.declared.broken.BrokenRules.{BrokenRules}
use Rattle.std.specs.List.{flat_map, sum_by}
use Rattle.ev_types.specs.declared.limits.TheConstants.{MAX_WEIGHT_SUM}
use Rattle.ev_tree.specs.Forms.{is_wrong, given_or, listed}
use Rattle.ev_tree.specs.Broken.{either_broken, any_broken}
use Rattle.ev_tree.proofs.Outcomes.{or_same}
use Rattle.ev_tree.proofs.Unions.{either_assoc}
use Rattle.ev_cluster_json.specs.declared.groups.TheConstants.{MAX_PRIORITY}
use Rattle.ev_cluster_json.specs.Assignments.{weight_of, hosts_of, priority_of, host_broken, group_broken}
use Rattle.ev_cluster_json.specs.Made.{host_rows, rank_of, made_group}
use Rattle.ev_cluster_json.proofs.Gained.{cap_over}
use Rattle.ev_cluster_json.proofs.groups.add_group.Goals as goal

pub returns : goal.returns
unfolding hosts_of priority_of group_broken made_group
returns c =
    let old = c.args.tally.now in
    let gains = c.in_ok-sum.ensures.gains in
    let hosts = c.elements.ensures ∙ ap listed c.in_ok-hosts.ensures.value in
    let number = c.given_or-number.ensures ∙ ap (given_or 0) c.in_ok-priority.ensures in
    let rank = c.clamp_priority.ensures ∙ ap rank_of number in
    let read = map view c.elements.result.now in
    let sum =
    ap (nat_lt MAX_WEIGHT_SUM) c.in_ok-sum.ensures.weight ∙ cap_over (sum_by weight_of read)
    ∙ ap (λ hs. nat_lt MAX_WEIGHT_SUM (sum_by weight_of hs)) hosts in
    let own : BrokenRules = record c.none.result {
      v6 = c.is_wrong.result || c.is_wrong-2.result;
      v13 = nat_lt MAX_PRIORITY c.given_or-number.result || nat_lt MAX_WEIGHT_SUM c.in_ok-sum.sum;
    } in
    record {
      broken =
          c.or-tally.ensures ∙ ap (λ b. either_broken b own) gains.broken ∙ either_assoc old.broken (any_broken (host_broken c.args.profile) read) own
          ∙ (λ i. either_broken old.broken (either_broken (any_broken (host_broken c.args.profile) (hosts i)) (record (c.none.ensures i) {
            v6 = or_same (c.is_wrong.ensures ∙ ap is_wrong c.in_ok-priority.ensures) (c.is_wrong-2.ensures ∙ c.in_ok-hosts.ensures.wrong) i;
            v13 = or_same (ap (nat_lt MAX_PRIORITY) number) sum i;
          })));
      rows = gains.rows ∙ (λ i. old.rows.items ++ flat_map (host_rows c.args.profile (rank i)) (hosts i));
    }
