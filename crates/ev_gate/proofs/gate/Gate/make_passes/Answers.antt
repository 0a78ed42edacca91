-- The leader makes one seat more.
use Rattle.std.proofs.Common.{ap, arith}
use Rattle.ev_gate.proofs.Steps.{splits}
use Rattle.ev_gate.proofs.Seating.{seating_more}
use Rattle.ev_gate.proofs.gate.Gate.make_passes.Goals as goal

pub split_seat-seat-requires : goal.split_seat-seat-requires
split_seat-seat-requires g c =
    let i = c.loop-made.invariant.0 in
    let me = i.leads.me_is in (
      i.leads.gate_is,
      (let w = c.args.self.now.sized.0 in omega arith),
      splits g.V.Stands.opening g.V.Stands.commits g.V.Stands.version_of c.args.self.now.table.shared.key c.loop-made.leader.id c.loop-made.leader.me.0
          (ap (λ m. m.0.number) me) (ap (λ m. m.0.spent) me) (ap (λ m. m.0.queued) me) (ap (λ m. m.0.serving) me)
          (let n = ap (λ m. m.0.made) me in let s = c.requires.some_seat.1 in omega arith),
    )

pub loop-made-preserved : goal.loop-made-preserved
loop-made-preserved g c =
    let s = c.split_seat-seat.ensures in
    let room = c.loop-made.invariant.1 in (
      seating_more _ _ _ _ c.loop-made._made c.loop-made.leader c.split_seat-seat.new.seat c.loop-made.passes.items c.push_reserved.new.self.items _ c.loop-made.invariant.0 s.0 s.2 s.3 s.4 c.push_reserved.ensures.items,
      (let l = c.push_reserved.ensures.capacity in omega arith),
    )
