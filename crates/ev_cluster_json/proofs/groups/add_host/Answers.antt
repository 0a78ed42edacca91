use Rattle.std.proofs.Common.{◌++◌, ◌∙◌, ap, option_to_list}
use Rattle.ev_tree.specs.Broken.{either_broken}
use Rattle.ev_cluster_json.proofs.groups.add_host.Goals as goal

pub returns-clause-gains : goal.returns-clause-gains
returns-clause-gains c =
    let old = c.args.tally.now in
    record {
      broken = c.or-tally.ensures ∙ ap (either_broken old.broken) c.in_ok-row.ensures.broken;
      rows = c.in_ok-push_row.ensures ∙ ap (λ row. old.rows.items ++ option_to_list row) c.in_ok-row.ensures.row;
    }
