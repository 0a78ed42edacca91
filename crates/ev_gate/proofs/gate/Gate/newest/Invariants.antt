use Rattle.std.specs.Prelude.{Some}
use Rattle.ev_gate.specs.Words.{first_of}
use Rattle.ev_gate.proofs.gate.Gate.newest.Given as goal

-- the value that the gate was made with
abbrev pub ghosts-asked : goal.ghosts-asked
ghosts-asked g a = record { first = Some (first_of a.self.now) }
