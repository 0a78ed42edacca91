use Rattle.std.proofs.Common.{◌≡◌, ◌+◌, map, drop}
use Rattle.std.specs.List.{position_or_len}
use Rattle.ev_script.specs.Members.{tree_told}
use Rattle.ev_expand.specs.Private.{line_uses}
use Rattle.ev_expand.proofs.private.first_use.Given as goal

abbrev pub invariant-loop-index : goal.invariant-loop-index
invariant-loop-index l = position_or_len (line_uses l.profile l.prefix) (map tree_told l.lines) ≡ l.index + position_or_len (line_uses l.profile l.prefix) (map tree_told (drop l.index l.lines))
