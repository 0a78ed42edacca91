use Rattle.std.proofs.Common.{◌≡◌, ◌∙◌, None, Ok, ap, sym}
use Rattle.serde_json.specs.View.{view}
use Rattle.ev_tree.specs.declared.broken.BrokenRules.{BrokenRules}
use Rattle.ev_tree.specs.Rules.{judged}
use Rattle.ev_tree.specs.Broken.{least_of}
use Rattle.ev_tree.proofs.Unions.{least_none}
use Rattle.ev_cluster_json.specs.Assignments.{assignment_broken, rows_of}
use Rattle.ev_cluster_json.proofs.RowsMade.{rows_made}
use Rattle.ev_cluster_json.proofs.assignments.read_assignment.Goals as goal

pub returns : goal.returns
returns c =
    let profile = c.args.profile in
    let tree = view c.args.value.now in
    let found = c.in_ok-tally.ensures in
    let none : least_of (assignment_broken profile tree) ≡ None = ap least_of (sym found.broken) ∙ sym c.least.ensures ∙ c.in_default.is in
    let clear = least_none (assignment_broken profile tree) none in
    let rows = c.in_ok-assignment.ensures ∙ found.rows ∙ rows_made profile tree (ap (λ (b : BrokenRules). b.v12) clear) (ap (λ (b : BrokenRules). b.v13) clear) in
    ap (λ rule. judged rule (rows_of profile tree)) none ∙ ap Ok (sym rows)
