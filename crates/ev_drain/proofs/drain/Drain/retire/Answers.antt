use Rattle.std.proofs.Common.{sym, ap, subst, ◌∙◌}
use Rattle.ev_model.specs.Picture.{has_number}
use Rattle.ev_drain.proofs.WorldLemmas.{retire_stands}
use Rattle.ev_model.specs.Sorted.{put_by}
use Rattle.ev_drain.specs.Retired.{has_row, newly_retired, row_before}
use Rattle.ev_drain.specs.Notes.{rows_of}
use Rattle.ev_drain.specs.Waiters.{HaveWaiters}
use Rattle.ev_drain.proofs.RowLemmas.{found_row, put_rows}
use Rattle.ev_drain.proofs.WaiterLemmas.{retired_waits}
use Rattle.ev_drain.proofs.drain.Drain.retire.Goals as goal

noted : goal.returns-clause-retired
noted c =
    let none = found_row c.args.number c.self.inside.notes.entries ∙ ap (λ rs. has_row rs c.args.number) c.self.view_is ∙ c.requires.absent in
    ap rows_of c.in-Ok-put.ensures.entries
    ∙ put_rows c.args.number c.in-Ok.note c.self.inside.notes.entries none
    ∙ ap (λ r. put_by row_before r (rows_of c.self.inside.notes.entries)) (c.in-Ok.ensures c.args.number)
    ∙ ap (put_by row_before (newly_retired c.args.kind c.args.number c.args.name.now c.args.dropped)) c.self.view_is

pub returns-clause-retired : goal.returns-clause-retired
returns-clause-retired c = noted c

pub returns-clause-world : goal.returns-clause-world
returns-clause-world c row before after expired stands live kind number name unmarked =
    noted c
    ∙ ap (λ k. put_by row_before (newly_retired k c.args.number c.args.name.now c.args.dropped) c.args.self.now) (sym kind)
    ∙ ap (λ n. put_by row_before (newly_retired row.kind n c.args.name.now c.args.dropped) c.args.self.now) (sym number)
    ∙ ap (λ n. put_by row_before (newly_retired row.kind row.number n c.args.dropped) c.args.self.now) (sym name)
    ∙ retire_stands row c.args.dropped c.args.self.now before after expired stands live
    (ap (has_row c.args.self.now) number ∙ c.requires.absent) (ap (λ n. has_number n expired) number ∙ unmarked)

pub invariant_of-self-2 : goal.invariant_of-self-2
invariant_of-self-2 c =
    let none = found_row c.args.number c.self.inside.notes.entries ∙ ap (λ rs. has_row rs c.args.number) c.self.view_is ∙ c.requires.absent in
    subst (HaveWaiters c.await_timeout.new.self)
    (sym (ap rows_of c.in-Ok-put.ensures.entries
    ∙ put_rows c.args.number c.in-Ok.note c.self.inside.notes.entries none
    ∙ ap (λ r. put_by row_before r (rows_of c.self.inside.notes.entries)) (c.in-Ok.ensures c.args.number)))
    (retired_waits c.self.inside.waiters c.await_timeout.new.self (newly_retired c.args.kind c.args.number c.args.name.now c.args.dropped)
    (rows_of c.self.inside.notes.entries) c.in-Ok-await_timeout.ensures.entered c.self.invariant)
