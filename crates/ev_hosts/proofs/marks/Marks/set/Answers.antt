use Rattle.std.proofs.Common.{◌∙◌, ◌<◌, ◌≤◌, ◌+◌, ◌-◌, sym, ap, subst, length, get_or, slice_set, false, arith}
use mir.Val.{bool_byte}
use Rattle.ev_hosts.specs.Bits.{marks_of, AreCounted}
use Rattle.ev_hosts.proofs.MarkLemmas.{has_room, is_put, IsPut}
use Rattle.ev_hosts.proofs.marks.Marks.set.Goals as goal

pub put-requires : goal.put-requires
put-requires c =
    let within : c.args.place < length (marks_of c.self.inside.words c.self.inside.len) =
    subst (λ marks. c.args.place < length marks) (sym c.self.view_is) c.requires in
    has_room c.self.inside.words c.self.inside.len c.args.place c.self.invariant.room within

pub overflow_sub-self : goal.overflow_sub-self
overflow_sub-self c =
    let within : c.args.place < length (marks_of c.self.inside.words c.self.inside.len) =
    subst (λ marks. c.args.place < length marks) (sym c.self.view_is) c.requires in
    let put : IsPut c.self.inside.words c.put.new.words c.self.inside.len c.self.inside.count c.args.place c.args.mark =
    is_put _ _ _ _ _ _ c.self.invariant within c.put.ensures.put c.put.ensures.len in
    subst (λ b. bool_byte b ≤ c.self.inside.count)
    (ap (λ marks. get_or marks c.args.place false) c.self.view_is ∙ sym c.get-before.ensures) put.taken

pub overflow_add-self : goal.overflow_add-self
overflow_add-self c =
    let within : c.args.place < length (marks_of c.self.inside.words c.self.inside.len) =
    subst (λ marks. c.args.place < length marks) (sym c.self.view_is) c.requires in
    let put : IsPut c.self.inside.words c.put.new.words c.self.inside.len c.self.inside.count c.args.place c.args.mark =
    is_put _ _ _ _ _ _ c.self.invariant within c.put.ensures.put c.put.ensures.len in
    let fits : c.self.inside.count - bool_byte c.get-before.result + bool_byte c.args.mark ≤ c.self.inside.len =
    subst (λ b. c.self.inside.count - bool_byte b + bool_byte c.args.mark ≤ c.self.inside.len)
    (ap (λ marks. get_or marks c.args.place false) c.self.view_is ∙ sym c.get-before.ensures) put.fits in
    omega (arith, fits, c.self.ranges.1.0.1)

pub invariant_of-self : goal.invariant_of-self
invariant_of-self c =
    let within : c.args.place < length (marks_of c.self.inside.words c.self.inside.len) =
    subst (λ marks. c.args.place < length marks) (sym c.self.view_is) c.requires in
    let put : IsPut c.self.inside.words c.put.new.words c.self.inside.len c.self.inside.count c.args.place c.args.mark =
    is_put _ _ _ _ _ _ c.self.invariant within c.put.ensures.put c.put.ensures.len in
    subst (λ b. AreCounted c.put.new.words c.self.inside.len (c.self.inside.count - bool_byte b + bool_byte c.args.mark))
    (ap (λ marks. get_or marks c.args.place false) c.self.view_is ∙ sym c.get-before.ensures) put.kept

pub returns : goal.returns
returns c =
    let within : c.args.place < length (marks_of c.self.inside.words c.self.inside.len) =
    subst (λ marks. c.args.place < length marks) (sym c.self.view_is) c.requires in
    let put : IsPut c.self.inside.words c.put.new.words c.self.inside.len c.self.inside.count c.args.place c.args.mark =
    is_put _ _ _ _ _ _ c.self.invariant within c.put.ensures.put c.put.ensures.len in
    put.is ∙ ap (λ marks. slice_set marks c.args.place c.args.mark) c.self.view_is
