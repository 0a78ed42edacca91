use Rattle.std.proofs.Common.{◌≡◌, ◌++◌, string_bytes}
use Rattle.ev_tree.proofs.Names.{camel_from}
use Rattle.std.proofs.Common.{false}
use Rattle.ev_tree.proofs.spelling.camel_case.Given as goal

-- what is spelled, and the spelling of the rest
abbrev pub invariant-loop-c : goal.invariant-loop-c
invariant-loop-c l = string_bytes l.spelled ++ camel_from l.after_underscore l.c-iterator.rest.now ≡ camel_from false l.name
