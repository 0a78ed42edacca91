use Rattle.std.proofs.Common.{ap, subst, ◌∙◌}
use Rattle.std.specs.Str.{IsUtf8}
use Rattle.std.proofs.lemmas.Str.{IsUtf8-string_bytes}
use Rattle.serde_json.specs.Written.{compact_text}
use Rattle.ev_types.specs.declared.events.Op.{Op}
use Rattle.ev_journal.specs.Rendering.{answer_tree, row_object}
use Rattle.ev_journal.specs.Rows.{row_text}
use Rattle.ev_journal.proofs.writing.write_line.Goals as goal

pub returns-clause-bounded : goal.returns-clause-bounded
unfolding row_text
returns-clause-bounded c =
    let entry = c.args.entry.now in
    let told = c.in_ok-line.ensures.text (answer_tree entry.answer) (c.as_str.ensures.value ∙ c.in_ok-answer.ensures.text) in
    record {
      actor = c.in_ok-line.ensures.bounded_actor;
      at = c.in_ok-line.ensures.bounded_at;
      step = c.in_ok-line.ensures.bounded_step;
      answer = c.in_ok-answer.ensures.bounded;
      utf8 = subst IsUtf8
          (told ∙ ap (λ (op : Op). compact_text (row_object entry.actor entry.at entry.step op (answer_tree entry.answer))) c.op.ensures)
          (IsUtf8-string_bytes c.in_ok-line.line);
    }
