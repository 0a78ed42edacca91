-- The lines of a script that may have one operation of its own beside those of every script.
use Rattle.std.specs.Prelude.{ℕ, List, Bool, true, false, if◌then◌else◌, Option, None, Some}
use Rattle.serde_json.specs.Data.{Data}
use Rattle.ev_types.specs.declared.events.Profile.{Profile}
use Rattle.ev_script.specs.Members.{is_op}
use Rattle.ev_script.specs.Faults.{LineForms, plain_lines}

-- a line that names no worker, where it is one
abbrev pub line_if : Bool → Option (Option ℕ)
line_if true = Some None
line_if false = None

-- a line: one with the operation's word is as the operation says, and all else is as in a script
abbrev pub line_with : List ℕ → (Profile → Data → Option (Option ℕ)) → Profile → ℕ → Data → Option (Option ℕ)
line_with word own profile at tree = if is_op word tree then own profile tree else plain_lines.lines profile at tree

-- the forms of the lines
abbrev pub lines_with : List ℕ → (Profile → Data → Option (Option ℕ)) → LineForms
lines_with word own = record { heads = plain_lines.heads; lines = line_with word own }
