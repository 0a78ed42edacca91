use Rattle.ev_tree.proofs.Numerals.{seconds_at_err}
use Rattle.std.proofs.Common.{sym, ◌∙◌}
use Rattle.ev_tree.proofs.durations.is_seconds.Goals as goal

pub returns-in-Err : goal.returns-in-Err
returns-in-Err c =
    seconds_at_err c.args.whole.now c.in-Err.field-0 c.parse.result c.parse.ensures.value.0 (sym c.is_numeral.ensures ∙ c.if-not-is_numeral.false) c.in-Err.is
