use Rattle.std.proofs.Common.{◌≡◌, ◌++◌}
use Rattle.ev_script.proofs.headers.listed.Given as goal

-- what was listed, and what is left after it
abbrev pub invariant-loop-name : goal.invariant-loop-name
invariant-loop-name l = l.list.items ++ l.name-iterator ≡ l.fn.headers.entries
