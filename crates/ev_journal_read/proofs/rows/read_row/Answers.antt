-- A text is a row's where it is the text of the row that its tree would be.
use Rattle.std.proofs.Common.{sym, ◌∙◌, ap, subst, option_map}
use Rattle.std.specs.Str.{IsUtf8}
use Rattle.serde_json.specs.View.{view}
use Rattle.ev_journal_read.proofs.TextLemmas.{no_tree, no_row, found_by, not_answered, another_text, is_text_of, same_bytes, other_bytes}
use Rattle.ev_journal_read.proofs.rows.read_row.Goals as goal

pub returns-in_default-clause-none : goal.returns-in_default-clause-none
returns-in_default-clause-none c told = no_tree c.args.text.now c.in_ok-tree.field-0 c.in_ok-tree.ensures c.in_default.is

pub returns-in_default-2-clause-none : goal.returns-in_default-2-clause-none
returns-in_default-2-clause-none c told =
    no_row c.args.text.now c.in_ok-tree.field-0 c.in-Some.tree c.in_ok-row.field-0 c.in_ok-tree.ensures c.in-Some.is c.in_ok-row.ensures c.in_default-2.is

pub returns-then-not-is_answered_with-clause-none : goal.returns-then-not-is_answered_with-clause-none
returns-then-not-is_answered_with-clause-none c told =
    not_answered c.args.text.now c.in-Some-2.row
    (found_by c.args.text.now c.in_ok-tree.field-0 c.in-Some.tree c.in_ok-row.field-0 c.in-Some-2.row c.in_ok-tree.ensures c.in-Some.is c.in_ok-row.ensures c.in-Some-2.is)
    (sym c.is_answered_with.ensures ∙ c.if-not-is_answered_with.true)

pub returns-then-ne-clause-none : goal.returns-then-ne-clause-none
returns-then-ne-clause-none c told =
    another_text c.args.text.now c.in-Some-2.row
    (found_by c.args.text.now c.in_ok-tree.field-0 c.in-Some.tree c.in_ok-row.field-0 c.in-Some-2.row c.in_ok-tree.ensures c.in-Some.is c.in_ok-row.ensures c.in-Some-2.is)
    (λ same. other_bytes c.as_slice.result.now c.args.text.now c.if-ne.ensures (c.as_slice.ensures.value ∙ c.in_ok-write_row.ensures.text ∙ same))

pub returns-clause-row : goal.returns-clause-row
returns-clause-row c =
    is_text_of c.args.text.now (view c.in-Some.tree) c.in-Some-2.row
    (sym c.in_ok-tree.ensures ∙ ap (option_map view) c.in-Some.is) (sym c.in_ok-row.ensures ∙ c.in-Some-2.is)
    (sym c.is_answered_with.ensures ∙ c.if-not-is_answered_with.false)
    (sym c.in_ok-write_row.ensures.text ∙ sym c.as_slice.ensures.value ∙ same_bytes c.as_slice.result.now c.args.text.now c.if-ne.ensures)
    (subst IsUtf8 c.in_ok-write_row.ensures.text c.in_ok-write_row.ensures.utf8)
