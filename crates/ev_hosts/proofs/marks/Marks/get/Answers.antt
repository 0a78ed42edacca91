use Rattle.std.proofs.Common.{◌∙◌, ◌<◌, ◌/◌, ◌%◌, sym, ap, subst, length, get_or, false}
use Rattle.ev_hosts.specs.Bits.{has_bit, marks_of}
use Rattle.ev_hosts.proofs.MarkLemmas.{has_room, reads}
use Rattle.ev_hosts.proofs.marks.Marks.get.Goals as goal

pub bounds-as_slice-place : goal.bounds-as_slice-place
bounds-as_slice-place c =
    let words = c.self.inside.words in
    let within : c.args.place < length (marks_of words c.self.inside.len) = subst (λ marks. c.args.place < length marks) (sym c.self.view_is) c.requires in
    subst (λ ws. c.args.place / 64 < length ws) (sym c.as_slice.ensures.elements) (has_room words c.self.inside.len c.args.place c.self.invariant.room within)

pub returns : goal.returns
returns c =
    let words = c.self.inside.words in
    let within : c.args.place < length (marks_of words c.self.inside.len) = subst (λ marks. c.args.place < length marks) (sym c.self.view_is) c.requires in
    c.has_bit.ensures
    ∙ ap (λ ws. has_bit (get_or ws (c.args.place / 64) 0) (c.args.place % 64)) c.as_slice.ensures.elements
    ∙ reads words c.self.inside.len c.args.place within
    ∙ ap (λ marks. get_or marks c.args.place false) c.self.view_is
