use Rattle.std.proofs.Common.{sym, ◌∙◌}
use Rattle.ev_types.proofs.DecimalLemmas.{magnitude_parsed}
use Rattle.ev_types.proofs.decimals.magnitude.Goals as goal

pub returns-then-is_numeral : goal.returns-then-is_numeral
returns-then-is_numeral c =
    c.ok.ensures.value ∙ magnitude_parsed c.args.text.now c.parse.result c.parse.ensures.value.0 (sym c.is_numeral.ensures ∙ c.if-is_numeral.true)
