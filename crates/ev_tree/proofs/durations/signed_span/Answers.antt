use Rattle.ev_tree.proofs.Units.{signed_span_plain}
use Rattle.std.proofs.Common.{sym, ◌∙◌, ap, ◌++◌, lit<}
use Rattle.std.proofs.lemmas.Str.{encode_ascii}
use Rattle.ev_tree.proofs.durations.signed_span.Goals as goal

pub returns-in-None : goal.returns-in-None
returns-in-None c =
    c.seconds_span-in-None.ensures ∙ sym (signed_span_plain c.args.text.now (λ rest e. c.in-None.ensures.cases rest (e ∙ sym (ap (λ xs. xs ++ rest) (encode_ascii 45 (lit< tt))))))
