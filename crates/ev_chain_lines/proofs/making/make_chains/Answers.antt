use Rattle.std.proofs.Common.{◌≡◌, ◌∙◌, Err, ap, map}
use Rattle.ev_io.specs.declared.faults.ScriptFault.TheVariants.{Read}
use Rattle.ev_chain_lines.specs.Lines.{event_told}
use Rattle.ev_chain_lines.specs.Texts.{chains_text}
use Rattle.ev_chain_lines.proofs.InputLemmas.{makes_text, makes_fault, makes_none, makes_nothing}
use Rattle.ev_chain_lines.proofs.making.make_chains.Goals as goal

pub returns-in_default-clause-made : goal.returns-in_default-clause-made
returns-in_default-clause-made g c = makes_nothing (g.S.Source.left c.args.source.now)

pub returns-in-Ok-answer_lines-clause-made : goal.returns-in-Ok-answer_lines-clause-made
returns-in-Ok-answer_lines-clause-made g c =
    makes_text (g.S.Source.left c.args.source.now) (g.S.Source.left c.read_lines_with.new.source) c.read_lines_with.new.lines c.in-Ok-read_lines_with.field-0 c.in-Ok-answer_lines.text
    c.in-Ok-read_lines_with.ensures.at_most c.in-Ok-read_lines_with.ensures.at_end c.in-Ok-read_lines_with.ensures.reads
    (c.in-Ok-answer_lines.ensures.text ∙ ap (λ lines. chains_text (map event_told lines)) c.as_slice.ensures.value)

pub returns-in-Ok-read_lines_with-clause-made : goal.returns-in-Ok-read_lines_with-clause-made
returns-in-Ok-read_lines_with-clause-made g c =
    makes_none (g.S.Source.left c.args.source.now) (g.S.Source.left c.read_lines_with.new.source) c.read_lines_with.new.lines c.in-Ok-read_lines_with.field-0
    c.in-Ok-read_lines_with.ensures.at_most c.in-Ok-read_lines_with.ensures.at_end c.in-Ok-read_lines_with.ensures.reads

pub returns-clause-made : goal.returns-clause-made
returns-clause-made g c =
    makes_fault (g.S.Source.left c.args.source.now) (g.S.Source.left c.read_lines_with.new.source) c.read_lines_with.new.lines c.in-Err.fault
    c.in-Err.ensures.at_most c.in-Err.ensures.at_end c.in-Err.ensures.reads

pub returns-clause-unended : goal.returns-clause-unended
returns-clause-unended g c = λ e.
    let same : c.in-Err.fault ≡ Read = cc in
    c.in-Err.ensures.unended.unended (c.in-Err.ensures.goes_on (ap Err same))
