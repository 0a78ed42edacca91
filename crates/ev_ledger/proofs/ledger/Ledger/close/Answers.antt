use Rattle.std.proofs.Common.{Some, None, sym, ap, ◌∙◌, subst, arith}
use Rattle.std.specs.Option.{is_some}
use Rattle.ev_model.specs.Connections.{is_open, closed}
use Rattle.ev_ledger.specs.Entries.{LeavesUnder, began_at, listener_of, members_of}
use Rattle.ev_ledger.proofs.EntryLemmas.{found_open, closed_members, sum_taken}
use Rattle.ev_ledger.proofs.IndexLemmas.{none_taken, taken_left}
use Rattle.ev_ledger.proofs.PlaceLemmas.{close_stands, closed_gone, answer_stands}
use Rattle.ev_ledger.proofs.ledger.Ledger.close.Goals as goal

answer_none : goal.returns-in_default-clause-answer
answer_none c =
    sym (ap is_some c.in_default.is) ∙ ap is_some c.take.ensures.found ∙ found_open c.args.worker c.args.conn c.self.inside.members.entries
    ∙ ap (λ ms. is_open ms c.args.worker c.args.conn) c.self.view_is

closed_none : goal.returns-in_default-clause-closed
closed_none c =
    ap members_of c.take.ensures.entries ∙ closed_members c.args.worker c.args.conn c.self.inside.members.entries c.take.ensures.ordered
    ∙ ap (λ ms. (closed c.args.conn c.args.worker ms).opened) c.self.view_is

answer_some : goal.returns-clause-answer
answer_some c =
    sym (ap is_some c.in-Some.is) ∙ ap is_some c.take.ensures.found ∙ found_open c.args.worker c.args.conn c.self.inside.members.entries
    ∙ ap (λ ms. is_open ms c.args.worker c.args.conn) c.self.view_is

closed_some : goal.returns-clause-closed
closed_some c =
    ap members_of c.take.ensures.entries ∙ closed_members c.args.worker c.args.conn c.self.inside.members.entries c.take.ensures.ordered
    ∙ ap (λ ms. (closed c.args.conn c.args.worker ms).opened) c.self.view_is

pub invariant_of-self : goal.invariant_of-self
invariant_of-self c = record {
  counted = λ number.
      let sums = sum_taken number (c.args.worker, c.args.conn) c.take.result c.self.inside.members.entries c.take.new.members.entries None c.take.ensures.found c.take.ensures.entries c.in_default.is in
      let counts = c.self.invariant.counted number in
      omega (arith, sums, counts);
  none_zero = c.self.invariant.none_zero;
  indexed = none_taken listener_of c.self.inside.places (c.args.worker, c.args.conn) c.self.inside.members.entries c.take.new.members.entries
      (sym c.take.ensures.found ∙ c.in_default.is) c.take.ensures.left c.self.invariant.indexed;
  begun_indexed = none_taken began_at c.self.inside.begun (c.args.worker, c.args.conn) c.self.inside.members.entries c.take.new.members.entries
      (sym c.take.ensures.found ∙ c.in_default.is) c.take.ensures.left c.self.invariant.begun_indexed;
}

pub returns-in_default-clause-answer : goal.returns-in_default-clause-answer
returns-in_default-clause-answer c = answer_none c

pub returns-in_default-clause-closed : goal.returns-in_default-clause-closed
returns-in_default-clause-closed c = closed_none c

pub returns-in_default-clause-answer_by_world : goal.returns-in_default-clause-answer_by_world
returns-in_default-clause-answer_by_world c opened stands = answer_none c ∙ answer_stands c.args.worker c.args.conn c.args.self.now opened stands

pub returns-in_default-clause-world : goal.returns-in_default-clause-world
returns-in_default-clause-world c opened stands = closed_none c ∙ close_stands c.args.worker c.args.conn c.args.self.now opened stands

pub lower_on-requires : goal.lower_on-requires
lower_on-requires c number =
    let sums = sum_taken number (c.args.worker, c.args.conn) c.take.result c.self.inside.members.entries c.take.new.members.entries (Some c.in-Some.on) c.take.ensures.found c.take.ensures.entries c.in-Some.is in
    let counts = c.self.invariant.counted number in
    omega (arith, sums, counts)

pub invariant_of-self-2 : goal.invariant_of-self-2
invariant_of-self-2 c = record {
  counted = λ number.
      let sums = sum_taken number (c.args.worker, c.args.conn) c.take.result c.self.inside.members.entries c.take.new.members.entries (Some c.in-Some.on) c.take.ensures.found c.take.ensures.entries c.in-Some.is in
      let counts = c.self.invariant.counted number in
      let lowered = c.lower_on.ensures.counts number in
      omega (arith, sums, counts, lowered);
  none_zero = c.lower_on.ensures.none_zero c.self.invariant.none_zero;
  indexed = taken_left listener_of c.self.inside.places c.leave_under.new.places (c.args.worker, c.args.conn) c.in-Some.on c.self.inside.members.entries c.take.new.members.entries
      (sym c.take.ensures.found ∙ c.in-Some.is)
      (subst (λ n. LeavesUnder n (c.args.worker, c.args.conn) c.self.inside.places c.leave_under.new.places) c.listener_of-listener.ensures c.leave_under.ensures)
      c.take.ensures.left c.self.invariant.indexed;
  begun_indexed = taken_left began_at c.self.inside.begun c.leave_under-2.new.places (c.args.worker, c.args.conn) c.in-Some.on c.self.inside.members.entries c.take.new.members.entries
      (sym c.take.ensures.found ∙ c.in-Some.is)
      (subst (λ n. LeavesUnder n (c.args.worker, c.args.conn) c.self.inside.begun c.leave_under-2.new.places) c.began_at-began.ensures c.leave_under-2.ensures)
      c.take.ensures.left c.self.invariant.begun_indexed;
}

pub returns-clause-answer : goal.returns-clause-answer
returns-clause-answer c = answer_some c

pub returns-clause-closed : goal.returns-clause-closed
returns-clause-closed c = closed_some c

pub returns-clause-answer_by_world : goal.returns-clause-answer_by_world
returns-clause-answer_by_world c opened stands = answer_some c ∙ answer_stands c.args.worker c.args.conn c.args.self.now opened stands

pub returns-clause-world : goal.returns-clause-world
returns-clause-world c opened stands = closed_some c ∙ close_stands c.args.worker c.args.conn c.args.self.now opened stands

pub returns-in_default-clause-gone : goal.returns-in_default-clause-gone
returns-in_default-clause-gone c = ap (λ ms. is_open ms c.args.worker c.args.conn) (closed_none c) ∙ closed_gone c.args.worker c.args.conn c.args.self.now

pub returns-clause-gone : goal.returns-clause-gone
returns-clause-gone c = ap (λ ms. is_open ms c.args.worker c.args.conn) (closed_some c) ∙ closed_gone c.args.worker c.args.conn c.args.self.now
