use Rattle.std.proofs.Common.{sym, ap, arith}
use Rattle.ev_hosts.specs.Bits.{count_set}
use Rattle.ev_hosts.proofs.MarkLemmas.{marks_of-none}
use Rattle.ev_hosts.proofs.marks.Marks.new.Goals as goal

pub invariant_of-result : goal.invariant_of-result
invariant_of-result c = record { room = omega arith; counted = sym (ap count_set (marks_of-none c.new.result)) }

pub returns : goal.returns
returns c = marks_of-none c.new.result
