use Rattle.std.specs.Prelude.{Some}
use Rattle.ev_gate.specs.Words.{first_of}
use Rattle.ev_gate.specs.Inner.{IsWaiting}
use Rattle.ev_gate.proofs.gate.Gate.turn.Given as goal

-- the value that the gate was made with
abbrev pub ghosts-draw : goal.ghosts-draw
ghosts-draw g a = record { first = Some (first_of a.self.now) }

-- the seat waits with its ticket
abbrev pub invariant-loop : goal.invariant-loop
invariant-loop g l = IsWaiting l.ticket l.fn.pass.seat l.seat
