use Rattle.std.proofs.Common.{map, take}
use Rattle.serde_json.specs.View.{view}
use Rattle.ev_cluster_json.specs.Assignments.{group_broken}
use Rattle.ev_cluster_json.specs.Made.{made_group}
use Rattle.ev_cluster_json.proofs.Gained.{gains_nothing, gains_more, gains_all, seen_more}
use Rattle.ev_cluster_json.proofs.groups.add_groups.Goals as goal

pub loop-group-init : goal.loop-group-init
loop-group-init c = gains_nothing c.args.tally.now

pub loop-group-preserved : goal.loop-group-preserved
loop-group-preserved c =
    let groups = c.args.groups.now in
    let i = c.loop-group.group-index in
    let group = c.group-item.result in
    let more = seen_more groups i group c.loop-group-test.true c.group-item.is in
    gains_more (group_broken c.args.profile) (made_group c.args.profile) _ _ _ (map view (take i groups)) _ (view group) more c.loop-group.invariant c.in_ok-add_group.ensures

pub returns : goal.returns
returns c =
    gains_all (group_broken c.args.profile) (made_group c.args.profile) _ _ c.args.groups.now c.loop-group.group-index c.loop-group-test.false c.loop-group.invariant
