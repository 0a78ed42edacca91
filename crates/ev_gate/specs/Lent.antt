-- A turn, after a write through `value`.
use Rattle.std.specs.Prelude.{[]}
use Rattle.std.specs.Borrow.{Lends, MutBor, Fml}
use mir.Syntax.{named}
use denote.RattleType.{RattleType}
use Rattle.ev_gate.specs.declared.stands.Stands.{Ghosts}
use Rattle.ev_gate.specs.declared.gate.Turn.{Turn}
use Rattle.ev_gate.specs.contracts.gate.Turn.{the_row}

-- the turn with w for its value
abbrev pub with_value : {V O C : Type 0} → Turn V O C → V → Turn V O C
with_value it w = record it { value = w }

-- the turn t ends with the last value after r for its value
abbrev pub LendsValue : (V O C : RattleType) (g : Ghosts V.Denot O.Denot C.Denot) → MutBor (Turn V.Denot O.Denot C.Denot) → MutBor V.Denot → Fml
LendsValue V O C g t r = Lends (the_row (record { mir = named 1; lft = [] }) V O C g) V t r (with_value t.now)
