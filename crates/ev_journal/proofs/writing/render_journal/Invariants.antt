use Rattle.std.proofs.Common.{◌≡◌, ◌++◌, take}
use Rattle.std.specs.List.{AllWithin, flat_map}
use Rattle.ev_journal.specs.Rendering.{line_text, first_tree, entry_row, entry_tree}
use Rattle.ev_journal.specs.Rows.{KeepsBounds}
use Rattle.ev_journal.proofs.writing.render_journal.Given as goal

abbrev pub invariant-loop-entry : goal.invariant-loop-entry
invariant-loop-entry l =
    (l.text.items ≡ line_text (first_tree l.fn.format l.workers) ++ flat_map (λ entry. line_text (entry_tree entry)) (take l.entry-index l.journal))
    × AllWithin (λ entry. KeepsBounds (entry_row entry)) l.journal 0 l.entry-index
