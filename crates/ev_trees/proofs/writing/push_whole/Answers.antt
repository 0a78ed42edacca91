use Rattle.std.proofs.Common.{◌≡◌, ◌++◌, false, OnOk, sym, subst}
use Rattle.serde_json.specs.Data.{Data}
use Rattle.serde_json.specs.View.{view}
use Rattle.serde_json.specs.Written.{has_float}
use Rattle.ev_journal.specs.Rendering.{line_text}
use Rattle.ev_trees.proofs.BackLemmas.{whole_back}
use Rattle.ev_tree.proofs.FloatLemmas.{made_whole, stays}
use Rattle.ev_trees.proofs.writing.push_whole.Goals as goal

pub push_line-requires : goal.push_line-requires
push_line-requires c = record {
  whole = subst (λ (d : Data). has_float d ≡ false) (sym c.in_ok-whole_copy.ensures) (made_whole (view c.args.tree.now)).none;
}

pub returns-in_ok-whole_copy-clause-reads_back : goal.returns-in_ok-whole_copy-clause-reads_back
returns-in_ok-whole_copy-clause-reads_back c =
    whole_back c.push_line.result (view c.in_ok-whole_copy.field-0) (view c.args.tree.now) c.in_ok-whole_copy.ensures c.push_line.ensures.reads_back

pub returns-else-has_float-clause-line : goal.returns-else-has_float-clause-line
returns-else-has_float-clause-line c =
    subst (λ (d : Data). OnOk c.push_line-else-has_float.result (c.push_line-else-has_float.new.text.items ≡ c.args.text.now.items ++ line_text d))
    (sym (stays (view c.args.tree.now) (sym c.if-has_float.ensures))) c.push_line-else-has_float.ensures.line

pub returns-else-has_float-clause-reads_back : goal.returns-else-has_float-clause-reads_back
returns-else-has_float-clause-reads_back c =
    whole_back c.push_line-else-has_float.result (view c.args.tree.now) (view c.args.tree.now)
    (sym (stays (view c.args.tree.now) (sym c.if-has_float.ensures))) c.push_line-else-has_float.ensures.reads_back
