use Rattle.std.proofs.Common.{sym, ◌∙◌, ap, ◌++◌, lit<, option_and_then}
use Rattle.std.proofs.lemmas.Str.{encode_ascii}
use Rattle.ev_types.specs.Decimals.{as_positive}
use Rattle.ev_types.proofs.DecimalLemmas.{decimal_plain}
use Rattle.ev_types.proofs.decimals.read_decimal.Goals as goal

pub returns-in_err-magnitude-in-None : goal.returns-in_err-magnitude-in-None
returns-in_err-magnitude-in-None c =
    let plain = decimal_plain c.args.text.now (λ rest e. c.in-None.ensures.cases rest (e ∙ sym (ap (λ xs. xs ++ rest) (encode_ascii 45 (lit< tt))))) in
    c.from_residual-in_err-magnitude-in-None.ensures ∙ ap (option_and_then as_positive) (sym c.in_err-magnitude-in-None.was ∙ c.magnitude-in-None.ensures) ∙ sym plain

pub returns-in_ok-magnitude-in-None : goal.returns-in_ok-magnitude-in-None
returns-in_ok-magnitude-in-None c =
    let plain = decimal_plain c.args.text.now (λ rest e. c.in-None.ensures.cases rest (e ∙ sym (ap (λ xs. xs ++ rest) (encode_ascii 45 (lit< tt))))) in
    c.as_positive.ensures ∙ ap (option_and_then as_positive) (sym c.in_ok-magnitude-in-None.was ∙ c.magnitude-in-None.ensures) ∙ sym plain
