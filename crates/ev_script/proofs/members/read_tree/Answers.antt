-- A read of bytes is the value that they are.
use Rattle.std.proofs.lemmas.Bool.{false≢true}
use Rattle.ev_script.proofs.MemberLemmas.{tree_read, tree_none}
use Rattle.ev_script.proofs.members.read_tree.Goals as goal

pub returns-in-Ok : goal.returns-in-Ok
returns-in-Ok c = tree_read _ _ c.in-Ok.ensures.ok.0 c.in-Ok.ensures.ok.1

pub returns-else-is_memory : goal.returns-else-is_memory
returns-else-is_memory c = tree_none _ (c.in-Err.ensures.err (λ memory. false≢true (c.if-is_memory.ensures.1 memory)))
