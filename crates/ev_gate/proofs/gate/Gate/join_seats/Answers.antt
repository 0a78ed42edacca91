-- The leader takes in the passes, one after another.
use Rattle.std.proofs.Common.{◌<◌, length, arith, subst, vec_len}
use Rattle.ev_gate.specs.Words.{gate_id}
use Rattle.ev_gate.specs.Inner.{IsGathering}
use Rattle.ev_gate.proofs.Steps.{joins}
use Rattle.ev_gate.proofs.Turning.{nil_of}
use Rattle.ev_gate.proofs.Gathering.{some_left, none_left, gathering_starts, gate_next, gathering_more}
use Rattle.ev_gate.proofs.gate.Gate.join_seats.Goals as goal

pub loop-passes-init : goal.loop-passes-init
loop-passes-init g c =
    let some_pass : 0 < length c.args.passes.items = (let n = c.requires.count_is in let s = c.args.self.now.some_seat in omega arith) in
    gathering_starts _ _ c.args.passes.items c.requires c.remove-leader.new.self.items c.remove-leader.result some_pass c.remove-leader.ensures.value c.remove-leader.ensures.items

pub join_seat-requires : goal.join_seat-requires
join_seat-requires g c =
    let i = c.loop-passes.invariant in
    let p = c.remove-seat.result in
    let some_pass : 0 < length c.loop-passes.passes.items = (let n = c.loop-passes.passes.ok.0 in let h = some_left (vec_len c.loop-passes.passes) c.is_empty.result c.is_empty.ensures c.loop-passes-test.true in omega arith) in
    let is = c.remove-seat.ensures.value in (
      i.gate_is,
      gate_next _ _ c.args.passes.items c.requires c.loop-passes.passes.items c.loop-passes.leader i p some_pass is,
      nil_of p.seat.me.1 p.holds_nothing,
      (let w = c.args.self.now.sized.0 in omega arith),
      joins g.V.Stands.opening g.V.Stands.commits g.V.Stands.version_of c.args.self.now.table.shared.key c.loop-passes.leader.id c.loop-passes.leader.me.0 p.seat.id p.seat.me.0 i.idle.0 i.idle.1 i.idle.2 p.idle.0 p.idle.1 p.idle.2,
    )

pub loop-passes-preserved : goal.loop-passes-preserved
loop-passes-preserved g c =
    let j = c.join_seat.ensures in
    let some_pass : 0 < length c.loop-passes.passes.items = (let n = c.loop-passes.passes.ok.0 in let h = some_left (vec_len c.loop-passes.passes) c.is_empty.result c.is_empty.ensures c.loop-passes-test.true in omega arith) in
    gathering_more _ _ c.args.passes.items c.requires c.loop-passes.passes.items c.loop-passes.leader c.loop-passes.invariant c.remove-seat.result some_pass c.remove-seat.ensures.value c.remove-seat.new.self.items c.join_seat.new.seat c.remove-seat.ensures.items j.0 j.2

pub returns : goal.returns
returns g c = subst (λ l. IsGathering (gate_id c.args.self.now) c.args.passes.items l c.loop-passes.leader) (nil_of c.loop-passes.passes.items (let n = c.loop-passes.passes.ok.0 in let h = none_left (vec_len c.loop-passes.passes) c.is_empty.result c.is_empty.ensures c.loop-passes-test.false in omega arith)) c.loop-passes.invariant
