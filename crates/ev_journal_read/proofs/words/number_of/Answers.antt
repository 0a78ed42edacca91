use Rattle.ev_tree.proofs.Numerals.{u32_text_parsed}
use Rattle.std.proofs.Common.{sym, ◌∙◌}
use Rattle.ev_journal_read.proofs.words.number_of.Goals as goal

pub returns-then-is_numeral : goal.returns-then-is_numeral
returns-then-is_numeral c =
    c.ok.ensures.value ∙ u32_text_parsed c.args.digits.now c.parse.result c.parse.ensures.value.0 (sym c.is_numeral.ensures ∙ c.if-is_numeral.true)
