-- A seat draws, waits, and takes the value.
use Rattle.std.proofs.Common.{◌≡◌, ◌∷◌, length, Some, refl, sym, ap, ◌∙◌, subst, arith}
use Rattle.atomic_table.specs.Table.{rest}
use Rattle.std.specs.Prelude.{IsSome}
use Rattle.ev_gate.specs.Held.{holds_empty}
use Rattle.ev_gate.specs.Inner.{IsServed, HasTurn}
use Rattle.ev_gate.proofs.Turning.{looks_as, still, served, in_slot, taken_out}
use Rattle.ev_gate.proofs.gate.Gate.turn.Goals as goal
use Rattle.ev_gate.proofs.gate.Gate.turn.Goals.{After-load-served, After-unwrap}

pub load-served-requires : goal.load-served-requires
load-served-requires g c =
    let h = c.loop.invariant in let p = c.args.pass in (
      h.gate_is ∙ c.requires,
      (let w = c.args.self.now.sized.0 in omega arith),
      looks_as g.V.Stands.opening g.V.Stands.commits g.V.Stands.version_of c.args.self.now.table.shared.key c.args.self.now.table.shared.table_id.slots c.loop.seat.id c.loop.seat.me h.holds_nothing
          (ap (λ v. v.spent) h.view_is ∙ p.idle.0) (ap (λ v. v.queued) h.view_is) (ap (λ v. v.serving) h.view_is ∙ p.idle.2),
    )

-- the seat that is served
is_served : (g : _) (c : After-load-served g) → c.load-served.result ≡ c.draw-ticket.result → IsServed g.V.Stands.opening g.V.Stands.commits g.V.Stands.version_of c.args.pass.seat c.load-served.new.seat
is_served g c e = let l = c.load-served.ensures in served g.V.Stands.opening g.V.Stands.commits g.V.Stands.version_of c.args.pass.seat c.draw-ticket.result c.loop.seat c.load-served.new.seat c.load-served.result c.loop.invariant l.0 l.2 e

pub exchange-slot-requires : goal.exchange-slot-requires
exchange-slot-requires g c =
    let s = is_served g (goal.at.exchange-slot-requires g c).After-load-served c.if-is_served.true in
    (s.gate_is ∙ c.requires, (Some s.value, s.held ∙ ap (λ l. (0, Some s.value) ∷ rest l) (sym s.held)))

-- the seat with the value in its hand
has_turn : (g : _) (c : After-unwrap g) → IsServed g.V.Stands.opening g.V.Stands.commits g.V.Stands.version_of c.args.pass.seat c.load-served.new.seat → HasTurn g.V.Stands.opening g.V.Stands.commits g.V.Stands.version_of c.args.pass.seat c.exchange-slot.new.seat c.unwrap.result
has_turn g c s =
    let e = c.exchange-slot.ensures in
    taken_out g.V.Stands.opening g.V.Stands.commits g.V.Stands.version_of c.args.pass.seat c.load-served.new.seat s c.exchange-slot.new.seat c.unwrap.result e.0 e.3 (sym (in_slot g.V.Stands.opening g.V.Stands.commits g.V.Stands.version_of c.args.pass.seat c.load-served.new.seat s c.exchange-slot.result e.2) ∙ c.unwrap.ensures)

pub unwrap-requires : goal.unwrap-requires
unwrap-requires g c =
    let s = is_served g (goal.at.unwrap-requires g c).After-load-served c.if-is_served.true in
    subst IsSome (sym (in_slot g.V.Stands.opening g.V.Stands.commits g.V.Stands.version_of c.args.pass.seat c.load-served.new.seat s c.exchange-slot.result c.exchange-slot.ensures.2)) refl

pub invariant_of-result : goal.invariant_of-result
invariant_of-result g c =
    let t = has_turn g (goal.at.invariant_of-result g c).After-unwrap (is_served g (goal.at.invariant_of-result g c).After-load-served c.if-is_served.true) in
    let p = c.args.pass in
    record { here = t.gate_is ∙ c.requires; served = (ap (λ v. v.spent) t.view_is ∙ p.idle.0, ap (λ v. v.queued) t.view_is, ap (λ v. v.serving) t.view_is); slot_is_out = ap holds_empty t.held; took_in_nothing = ap (λ v. length v.told) t.view_is ∙ p.took_in_nothing }

pub loop-preserved : goal.loop-preserved
loop-preserved g c = let l = c.load-served.ensures in still g.V.Stands.opening g.V.Stands.commits g.V.Stands.version_of c.args.pass.seat c.draw-ticket.result c.loop.seat c.load-served.new.seat c.load-served.result c.loop.invariant l.0 l.2 c.if-is_served.false
