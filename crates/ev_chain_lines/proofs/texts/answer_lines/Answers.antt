use Rattle.std.proofs.Common.{◌∙◌, ◌+◌, map, ap}
use Rattle.ev_chains.specs.State.{opening}
use Rattle.ev_chains.specs.Steps.{chain_step, answers_of}
use Rattle.ev_chain_lines.specs.Lines.{event_told}
use Rattle.ev_chain_lines.specs.Texts.{line_tree, text_from}
use Rattle.ev_chain_lines.proofs.FloatLemmas.{line_whole}
use Rattle.ev_chain_lines.proofs.TextLemmas.{text_more}
use Rattle.ev_chain_lines.proofs.texts.answer_lines.Goals as goal

pub push_line-requires : goal.push_line-requires
push_line-requires c = record {
  whole = line_whole (c.loop-place.place + 2) (chain_step c.loop-place.chains (event_told c.index-lines-place.result)).1 _ (c.in_ok-answered.ensures ∙ ap (line_tree (c.loop-place.place + 2)) c.in_ok-answer.ensures.answer);
}

pub loop-place-preserved : goal.loop-place-preserved
loop-place-preserved c =
    text_more c.args.lines.now c.loop-place.place c.index-lines-place.result c.loop-place.chains c.answer_line.new.chains c.loop-place.text.items c.push_line.new.text.items _
    (text_from 2 (answers_of opening (map event_told c.args.lines.now)))
    c.loop-place-test.true c.index-lines-place.is c.loop-place.invariant c.in_ok-answer.ensures.state
    (c.in_ok-answered.ensures ∙ ap (line_tree (c.loop-place.place + 2)) c.in_ok-answer.ensures.answer)
    c.in_ok-push_line.ensures.line
