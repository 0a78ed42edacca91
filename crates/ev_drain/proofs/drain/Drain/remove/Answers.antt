use Rattle.std.proofs.Common.{refl, sym, subst, ◌∙◌}
use Rattle.ev_drain.specs.Waiters.{HaveWaiters}
use Rattle.ev_drain.specs.Notes.{rows_of}
use Rattle.ev_drain.proofs.RowLemmas.{rows_left}
use Rattle.ev_drain.proofs.WaiterLemmas.{kept_waits, removed_waits}
use Rattle.ev_drain.proofs.WorldLemmas.{remove_stands}
use Rattle.ev_drain.proofs.drain.Drain.remove.Goals as goal

-- no generation has the number
removed_none : goal.returns-in_default-clause-removed
removed_none c = rows_left c.args.number c.self.inside.notes.entries c.remove.new.self.entries c.args.self.now c.remove.ensures.entries c.len.ensures.ordered c.self.view_is

pub returns-in_default-clause-removed : goal.returns-in_default-clause-removed
returns-in_default-clause-removed c = removed_none c

pub returns-in_default-clause-world : goal.returns-in_default-clause-world
returns-in_default-clause-world c rows expired stands = removed_none c ∙ remove_stands c.args.number c.args.self.now rows expired stands

-- one waited still
removed_waiting : goal.returns-then-is_waiting-clause-removed
removed_waiting c = rows_left c.args.number c.self.inside.notes.entries c.remove.new.self.entries c.args.self.now c.remove.ensures.entries c.len.ensures.ordered c.self.view_is

pub invariant_of-self-then-is_waiting : goal.invariant_of-self-then-is_waiting
invariant_of-self-then-is_waiting c =
    subst (HaveWaiters c.leave.new.self)
    (sym (rows_left c.args.number c.self.inside.notes.entries c.remove.new.self.entries (rows_of c.self.inside.notes.entries) c.remove.ensures.entries c.len.ensures.ordered refl))
    (removed_waits c.self.inside.waiters c.leave.new.self c.get.result.now c.args.number (rows_of c.self.inside.notes.entries) c.leave.ensures c.self.invariant)

pub returns-then-is_waiting-clause-removed : goal.returns-then-is_waiting-clause-removed
returns-then-is_waiting-clause-removed c = removed_waiting c

pub returns-then-is_waiting-clause-world : goal.returns-then-is_waiting-clause-world
returns-then-is_waiting-clause-world c rows expired stands = removed_waiting c ∙ remove_stands c.args.number c.args.self.now rows expired stands

-- one waited no longer
removed_other : goal.returns-clause-removed
removed_other c = rows_left c.args.number c.self.inside.notes.entries c.remove.new.self.entries c.args.self.now c.remove.ensures.entries c.len.ensures.ordered c.self.view_is

pub invariant_of-self-else-is_waiting : goal.invariant_of-self-else-is_waiting
invariant_of-self-else-is_waiting c =
    subst (HaveWaiters c.self.inside.waiters)
    (sym (rows_left c.args.number c.self.inside.notes.entries c.remove.new.self.entries (rows_of c.self.inside.notes.entries) c.remove.ensures.entries c.len.ensures.ordered refl))
    (kept_waits c.self.inside.waiters c.args.number (rows_of c.self.inside.notes.entries) c.self.invariant)

pub returns-clause-removed : goal.returns-clause-removed
returns-clause-removed c = removed_other c

pub returns-clause-world : goal.returns-clause-world
returns-clause-world c rows expired stands = removed_other c ∙ remove_stands c.args.number c.args.self.now rows expired stands
