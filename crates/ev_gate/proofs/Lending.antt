-- A turn is its gate, its seat and its value: what its ghost fields say, they say in one way.
use Rattle.std.proofs.Common.{◌≡◌, ℕ, Bool, true, false, length, Option}
use Rattle.std.proofs.Props.{props}
use Rattle.std.specs.Borrow.{Bor}
use Rattle.atomic_table.specs.declared.shared.Seat.{Seat}
use Rattle.ev_gate.specs.declared.view.View.{View}
use Rattle.ev_gate.specs.declared.gate.Gate.{Gate}
use Rattle.ev_gate.specs.declared.gate.Turn.{Turn}
use Rattle.ev_gate.specs.Held.{TableId-set, holds_empty}

bool_once : (a b : Bool) → IsProp (a ≡ b)
bool_once a b = hlevel props

nat_once : (a b : ℕ) → IsProp (a ≡ b)
nat_once a b = hlevel props

pub turn_same : {V O C : Type 0} (gate : Bor (Gate V O C)) (seat : Seat (Option V) (View O C)) (value : V)
    (here here' : seat.table_id ≡ gate.now.table.shared.table_id)
    (served served' : (seat.me.0.spent ≡ false) × (seat.me.0.queued ≡ true) × (seat.me.0.serving ≡ true))
    (out out' : holds_empty seat.me.1 ≡ true)
    (none none' : length seat.me.0.told ≡ 0)
    → ◌≡◌ {A = Turn V O C} record { gate = gate; seat = seat; value = value; here = here; served = served; slot_is_out = out; took_in_nothing = none } record { gate = gate; seat = seat; value = value; here = here'; served = served'; slot_is_out = out'; took_in_nothing = none' }
turn_same gate seat value here here' served served' out out' none none' = λ k. record {
  gate = gate;
  seat = seat;
  value = value;
  here = TableId-set seat.table_id gate.now.table.shared.table_id here here' k;
  served = (bool_once seat.me.0.spent false served.0 served'.0 k, bool_once seat.me.0.queued true served.1 served'.1 k, bool_once seat.me.0.serving true served.2 served'.2 k);
  slot_is_out = bool_once (holds_empty seat.me.1) true out out' k;
  took_in_nothing = nat_once (length seat.me.0.told) 0 none none' k;
}
