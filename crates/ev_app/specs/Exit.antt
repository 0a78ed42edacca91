-- The exit status of the process, by how the program ended. This project's own.
use Rattle.std.specs.Prelude.{ℕ}
use Rattle.ev_app.specs.declared.status.Status.{Status}
use Rattle.ev_app.specs.declared.status.Status.TheVariants.{Done, Illegal, Usage, BadScript, ReadFault, WriteFault, OutOfMemory}

-- the exit status that says it
abbrev pub exit_of : Status → ℕ
exit_of Done = 0
exit_of Illegal = 1
exit_of Usage = 2
exit_of (BadScript line kind) = 3
exit_of ReadFault = 4
exit_of WriteFault = 5
exit_of OutOfMemory = 6
