use Rattle.std.proofs.Common.{◌≡◌, [], unwrap_or, map, sym, ap, subst, ◌∙◌}
use Rattle.std.specs.List.{list_any}
use Rattle.ev_drain.specs.Retired.{Retired, marked, is_waiting}
use Rattle.ev_drain.specs.Waiters.{numbers_under, HaveWaiters}
use Rattle.ev_drain.specs.Notes.{rows_of, is_waiting_among, marked_among}
use Rattle.ev_drain.proofs.MarkLemmas.{mark_none, wait_none}
use Rattle.ev_drain.proofs.WaiterLemmas.{marks_all, waits_all, expired_waits}
use Rattle.ev_drain.proofs.WorldLemmas.{waiting_stands, expire_stands, distinct_rows, Distinct}
use Rattle.ev_drain.proofs.drain.Drain.expire.Goals as goal

-- where no number was under the name
no_numbers : (c : goal.In_default) → [] ≡ numbers_under c.self.inside.waiters c.args.name.now
no_numbers c = ap (λ r. unwrap_or r []) (sym c.in_default.is) ∙ c.take.ensures.taken

rows_none : (c : goal.In_default) → rows_of c.self.inside.notes.entries ≡ map (marked c.args.name.now) (rows_of c.self.inside.notes.entries)
rows_none c =
    ap rows_of (mark_none c.args.name.now c.self.inside.notes.entries)
    ∙ marks_all c.self.inside.waiters c.args.name.now [] c.self.inside.notes.entries c.self.invariant (no_numbers c)

answered_none : goal.returns-in_default-clause-answer
answered_none c =
    wait_none c.args.name.now c.self.inside.notes.entries
    ∙ waits_all c.self.inside.waiters c.args.name.now [] c.self.inside.notes.entries c.self.invariant (no_numbers c)
    ∙ ap (list_any (is_waiting c.args.name.now)) c.self.view_is

marks_none : goal.returns-in_default-clause-marked
marks_none c = rows_none c ∙ ap (map (marked c.args.name.now)) c.self.view_is

pub invariant_of-self : goal.invariant_of-self
invariant_of-self c =
    subst (HaveWaiters c.take.new.self) (sym (rows_none c))
    (expired_waits c.self.inside.waiters c.take.new.self c.args.name.now (rows_of c.self.inside.notes.entries) c.take.ensures.left c.self.invariant)

pub returns-in_default-clause-answer : goal.returns-in_default-clause-answer
returns-in_default-clause-answer c = answered_none c

pub returns-in_default-clause-marked : goal.returns-in_default-clause-marked
returns-in_default-clause-marked c = marks_none c

pub returns-in_default-clause-answer_by_world : goal.returns-in_default-clause-answer_by_world
returns-in_default-clause-answer_by_world c rows expired stands = answered_none c ∙ waiting_stands c.args.name.now c.args.self.now rows expired stands

pub returns-in_default-clause-world : goal.returns-in_default-clause-world
returns-in_default-clause-world c rows expired stands =
    marks_none c
    ∙ expire_stands c.args.name.now c.args.self.now rows expired
    (subst (Distinct (λ (r : Retired). r.number)) c.self.view_is (distinct_rows c.self.inside.notes.entries c.len.ensures.ordered)) stands

-- where numbers were under the name
taken_numbers : (c : goal.After-drop-numbers-inside) → c.in-Some.numbers ≡ numbers_under c.self.inside.waiters c.args.name.now
taken_numbers c = ap (λ r. unwrap_or r []) (sym c.in-Some.is) ∙ c.take.ensures.taken

rows_some : (c : goal.After-drop-numbers-inside) → rows_of c.mark.new.notes.entries ≡ map (marked c.args.name.now) (rows_of c.self.inside.notes.entries)
rows_some c =
    ap rows_of (c.mark.ensures.entries
    ∙ (λ i. map (marked_among (c.as_str.ensures.bytes i) (c.as_slice.ensures.elements i)) c.self.inside.notes.entries))
    ∙ marks_all c.self.inside.waiters c.args.name.now c.in-Some.numbers c.self.inside.notes.entries c.self.invariant (taken_numbers c)

answered : goal.returns-clause-answer
answered c =
    c.mark.ensures.answer
    ∙ (λ i. list_any (is_waiting_among (c.as_str.ensures.bytes i) (c.as_slice.ensures.elements i)) c.self.inside.notes.entries)
    ∙ waits_all c.self.inside.waiters c.args.name.now c.in-Some.numbers c.self.inside.notes.entries c.self.invariant (taken_numbers c)
    ∙ ap (list_any (is_waiting c.args.name.now)) c.self.view_is

marks : goal.returns-clause-marked
marks c = rows_some c ∙ ap (map (marked c.args.name.now)) c.self.view_is

pub invariant_of-self-2 : goal.invariant_of-self-2
invariant_of-self-2 c =
    subst (HaveWaiters c.take.new.self) (sym (rows_some c))
    (expired_waits c.self.inside.waiters c.take.new.self c.args.name.now (rows_of c.self.inside.notes.entries) c.take.ensures.left c.self.invariant)

pub returns-clause-answer : goal.returns-clause-answer
returns-clause-answer c = answered c

pub returns-clause-marked : goal.returns-clause-marked
returns-clause-marked c = marks c

pub returns-clause-answer_by_world : goal.returns-clause-answer_by_world
returns-clause-answer_by_world c rows expired stands = answered c ∙ waiting_stands c.args.name.now c.args.self.now rows expired stands

pub returns-clause-world : goal.returns-clause-world
returns-clause-world c rows expired stands =
    marks c
    ∙ expire_stands c.args.name.now c.args.self.now rows expired
    (subst (Distinct (λ (r : Retired). r.number)) c.self.view_is (distinct_rows c.self.inside.notes.entries c.len.ensures.ordered)) stands
