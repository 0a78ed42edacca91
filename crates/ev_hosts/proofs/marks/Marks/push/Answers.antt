use Rattle.std.proofs.Common.{◌∙◌, ◌+◌, ◌++◌, ◌∷◌, [], Result, Ok, Err, sym, ap, subst, OnErr, arith}
use mir.Val.{bool_byte}
use Rattle.ev_hosts.specs.Bits.{marks_of, AreCounted}
use Rattle.ev_hosts.proofs.MarkLemmas.{is_pushed, is_kept, IsPushed, marks_of-same}
use Rattle.ev_hosts.proofs.marks.Marks.push.Goals as goal

on_err : {X E P : Type 0} (result : Result X E) → P → OnErr result P
on_err (Ok value) p = tt
on_err (Err error) p = p

pub invariant_of-self : goal.invariant_of-self
invariant_of-self c = is_kept _ _ _ _ c.self.invariant c.make_room.ensures.keeps c.make_room.ensures.room

pub returns-in_err-make_room-clause-err : goal.returns-in_err-make_room-clause-err
returns-in_err-make_room-clause-err c =
    on_err c.from_residual.result
    (marks_of-same c.self.inside.words c.make_room.new.words c.self.inside.len c.make_room.ensures.keeps ∙ c.self.view_is)

pub overflow_add-self : goal.overflow_add-self
overflow_add-self c =
    let pushed : IsPushed c.self.inside.words c.put.new.words c.self.inside.len c.self.inside.count c.args.mark =
    is_pushed _ c.make_room.new.words _ _ _ _ c.self.invariant c.make_room.ensures.keeps c.in_ok-make_room.ensures.ok c.put.ensures.len c.put.ensures.put in
    omega (arith, pushed.fits, c.in-Some.ensures.0)

pub invariant_of-self-2 : goal.invariant_of-self-2
invariant_of-self-2 c =
    let pushed : IsPushed c.self.inside.words c.put.new.words c.self.inside.len c.self.inside.count c.args.mark =
    is_pushed _ c.make_room.new.words _ _ _ _ c.self.invariant c.make_room.ensures.keeps c.in_ok-make_room.ensures.ok c.put.ensures.len c.put.ensures.put in
    subst (λ len. AreCounted c.put.new.words len (c.self.inside.count + bool_byte c.args.mark)) (sym c.in-Some.ensures.1) pushed.kept

pub returns-clause-ok : goal.returns-clause-ok
returns-clause-ok c =
    let pushed : IsPushed c.self.inside.words c.put.new.words c.self.inside.len c.self.inside.count c.args.mark =
    is_pushed _ c.make_room.new.words _ _ _ _ c.self.invariant c.make_room.ensures.keeps c.in_ok-make_room.ensures.ok c.put.ensures.len c.put.ensures.put in
    ap (marks_of c.put.new.words) c.in-Some.ensures.1 ∙ pushed.is ∙ ap (λ marks. marks ++ c.args.mark ∷ []) c.self.view_is
