use Rattle.std.proofs.Common.{◌≡◌, take}
use Rattle.ev_types.proofs.lists.SeqTryCopy.copy.Given as goal

abbrev pub invariant-loop-item : goal.invariant-loop-item
invariant-loop-item g l = l.items.items ≡ take l.item-index l.item-items
