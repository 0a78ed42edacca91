use Rattle.std.proofs.Common.{◌∙◌, ap}
use Rattle.ev_tree.specs.Forms.{inside}
use Rattle.ev_tree.specs.Broken.{either_broken}
use Rattle.ev_cluster_json.specs.Assignments.{assignment_broken}
use Rattle.ev_cluster_json.specs.Clusters.{load_assignment_of, load_assignment_broken}
use Rattle.ev_cluster_json.specs.Made.{made_rows}
use Rattle.ev_cluster_json.proofs.parts.inspect_load_assignment.Goals as goal

pub returns-clause-rows : goal.returns-clause-rows
unfolding load_assignment_of
returns-clause-rows c = c.in_ok-tally.ensures.rows ∙ ap (made_rows c.args.profile) (c.inner.ensures ∙ ap inside c.in_ok-assignment.ensures.value)

pub returns-clause-broken : goal.returns-clause-broken
unfolding load_assignment_of load_assignment_broken
returns-clause-broken c =
    let assigned = c.inner.ensures ∙ ap inside c.in_ok-assignment.ensures.value in
    c.or.ensures ∙ (λ i. either_broken ((c.in_ok-tally.ensures.broken ∙ ap (assignment_broken c.args.profile) assigned) i) (record (c.none.ensures i) {
      v6 = (c.is_wrong.ensures ∙ c.in_ok-assignment.ensures.wrong) i;
    }))
