use Rattle.std.proofs.Common.{◌∙◌, ◌++◌, ap}
use Rattle.std.specs.List.{flat_map}
use Rattle.ev_tree.specs.Forms.{listed}
use Rattle.ev_tree.specs.Broken.{either_broken, any_broken}
use Rattle.ev_tree.proofs.Outcomes.{or_same}
use Rattle.ev_cluster_json.specs.Assignments.{groups_of, group_broken, assignment_broken}
use Rattle.ev_cluster_json.specs.Made.{made_group, made_rows}
use Rattle.ev_cluster_json.proofs.groups.inspect_assignment.Goals as goal

pub returns-clause-rows : goal.returns-clause-rows
unfolding groups_of made_rows
returns-clause-rows c =
    let groups = c.elements.ensures ∙ ap listed c.in_ok-groups.ensures.value in
    c.in_ok-add_groups.ensures.rows ∙ (λ i. c.new.ensures.items i ++ flat_map (made_group c.args.profile) (groups i))

pub returns-clause-broken : goal.returns-clause-broken
unfolding groups_of assignment_broken
returns-clause-broken c =
    let groups = c.elements.ensures ∙ ap listed c.in_ok-groups.ensures.value in
    c.in_ok-add_groups.ensures.broken ∙ (λ i. either_broken (record (c.none.ensures i) {
      v6 = or_same (c.is_wrong.ensures ∙ c.in_ok-cluster_name.ensures.wrong) (c.is_wrong-2.ensures ∙ c.in_ok-groups.ensures.wrong) i;
    }) (any_broken (group_broken c.args.profile) (groups i)))
