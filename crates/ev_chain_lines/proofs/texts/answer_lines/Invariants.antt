use Rattle.std.proofs.Common.{◌≡◌, ◌+◌, ◌++◌, map, drop}
use Rattle.ev_chains.specs.State.{opening}
use Rattle.ev_chains.specs.Steps.{answers_of}
use Rattle.ev_chain_lines.specs.Lines.{event_told}
use Rattle.ev_chain_lines.specs.Texts.{text_from}
use Rattle.ev_chain_lines.proofs.texts.answer_lines.Given as goal

-- the text so far, and that of the answers to come
abbrev pub invariant-loop-place : goal.invariant-loop-place
invariant-loop-place l =
    l.text.items ++ text_from (l.place + 2) (answers_of l.chains (map event_told (drop l.place l.lines)))
    ≡ text_from 2 (answers_of opening (map event_told l.lines))
