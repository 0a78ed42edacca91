use Rattle.ev_indexes.specs.declared.state.State.{State}
use Rattle.ev_indexes.proofs.NewLemmas.{indexed-new, stands-new}
use Rattle.ev_indexes.proofs.state.State.new.Goals as goal

pub returns-clause-indexed : goal.returns-clause-indexed
returns-clause-indexed c =
    let s : State = record { table = c.new.result; names = c.new-2.result; watches = c.new-3.result; addresses = c.new-4.result; results = c.new-5.result; due = c.new-6.result } in
    indexed-new s c.new.ensures.rows c.new.ensures.made c.new-2.ensures c.new-3.ensures c.new-4.ensures c.new-5.ensures c.new-6.ensures

pub returns-clause-stands : goal.returns-clause-stands
returns-clause-stands c =
    let s : State = record { table = c.new.result; names = c.new-2.result; watches = c.new-3.result; addresses = c.new-4.result; results = c.new-5.result; due = c.new-6.result } in
    stands-new s c.new.ensures.rows c.new.ensures.made c.new-2.ensures c.new-3.ensures c.new-4.ensures c.new-5.ensures c.new-6.ensures
