use Rattle.std.proofs.Common.{◌≡◌, ◌∙◌, ℕ, nat_eq, List, None, IsSome, ap, refl, sym, subst}
use Rattle.std.specs.Map.{lookup}
use Rattle.std.specs.Option.{option_copied_mut}
use Rattle.ev_indexes.specs.Marked.{rows_marked, NotesMark}
use Rattle.ev_indexes.specs.declared.marked.MarkedRows.{MarkedRows}
use Rattle.ev_indexes.proofs.MarkLemmas.{notes-mark, notes-none, rows_marked-set_value}
use Rattle.ev_indexes.proofs.marked.note_mark.Goals as goal

pub returns-in-Some : goal.returns-in-Some
returns-in-Some c =
    let es = c.args.marked.now.entries in
    let w = c.note.new.self in
    let fs = (c.get_mut.follows.lender w).entries in
    let m = c.in-Some.rows.now in
    let there = subst IsSome c.in-Some.ensures.value refl in
    subst (λ (n : ℕ). NotesMark es fs n c.args.host.now c.args.healthy) c.number.ensures.number
    (notes-mark es fs c.number.result c.args.host.now c.args.healthy m w (sym c.in-Some.ensures.value) c.note.ensures.rows c.note.ensures.marks
    (ap rows_marked (c.get_mut.follows.holds w).0 ∙ rows_marked-set_value (nat_eq c.number.result) es m w (sym c.in-Some.ensures.value) c.note.ensures.rows)
    ((c.get_mut.follows.holds w).3 there).0)

pub returns-in_default : goal.returns-in_default
returns-in_default c =
    let es = c.args.marked.now.entries in
    let none : lookup (nat_eq c.number.result) es ≡ None = sym c.get_mut.ensures.value ∙ (λ i. option_copied_mut (c.in_default.is i)) in
    subst (λ (fs : List (ℕ × MarkedRows)). NotesMark es fs c.args.number c.args.host.now c.args.healthy) (sym (λ i. (c.get_mut.follows.holds-at-none i).entries))
    (notes-none es c.args.number c.args.host.now c.args.healthy ((λ i. lookup (nat_eq (sym c.number.ensures.number i)) es) ∙ none))
