use Rattle.std.proofs.Common.{ℕ, BTreeMap, ap, sym, ◌∙◌}
use Rattle.ev_drain.specs.declared.notes.Note.{Note}
use Rattle.std.specs.Map.{set_value}
use Rattle.std.specs.BTreeMap.{is_at}
use Rattle.std.specs.Ordering.{nat_cmp}
use Rattle.ev_drain.proofs.MarkLemmas.{marked_written, waiting_found, marked_missed, waiting_missed}
use Rattle.ev_drain.proofs.notes.mark_numbered.Goals as goal

pub returns-in-Some : goal.returns-in-Some
returns-in-Some c = record {
  answer =
      c.mark_one.ensures.answer
      ∙ waiting_found c.args.name.now c.args.number c.args.notes.now.entries c.in-Some.note.now c.len.ensures.ordered (sym c.in-Some.ensures.value);
  entries =
      (c.get_mut.follows.holds c.mark_one.new.note).0
      ∙ ap (λ note. set_value (is_at (nat_cmp c.args.number)) c.args.notes.now.entries note) c.mark_one.ensures.marked
      ∙ marked_written c.args.name.now c.args.number c.args.notes.now.entries c.in-Some.note.now c.len.ensures.ordered (sym c.in-Some.ensures.value);
}

pub returns-in-None : goal.returns-in-None
returns-in-None c = record {
  answer = waiting_missed c.args.name.now c.args.number c.args.notes.now.entries (sym c.in-None.ensures.value);
  entries =
      ap (λ (m : BTreeMap ℕ Note). m.entries) c.get_mut.follows.holds-at-none
      ∙ marked_missed c.args.name.now c.args.number c.args.notes.now.entries (sym c.in-None.ensures.value);
}
