use Rattle.ev_tree.proofs.Units.{before_unit-append, before_unit_none}
use Rattle.std.proofs.Common.{◌≡◌, ◌++◌, ◌∷◌, [], sym, ◌∙◌, ap, lit<, Some}
use Rattle.std.proofs.lemmas.Str.{encode_ascii}
use Rattle.std.proofs.lemmas.Str.Pattern.{strip_suffix_char}
use Rattle.std.specs.Option.{option_and_then}
use Rattle.ev_tree.specs.Scalars.{span_of, signed_span, before_unit}
use Rattle.ev_tree.proofs.durations.span.Goals as goal

pub returns-in_err-strip_suffix : goal.returns-in_err-strip_suffix
unfolding span_of
returns-in_err-strip_suffix c =
    let none = before_unit_none c.args.text.now (λ front e. c.in_err-strip_suffix.ensures.cases front (e ∙ sym (ap (λ xs. front ++ xs) (encode_ascii 115 (lit< tt))))) in
    c.from_residual.ensures ∙ sym (ap (option_and_then signed_span) none)

pub returns : goal.returns
unfolding span_of
returns c =
    let parts = strip_suffix_char 115 c.args.text.now c.strip_suffix.result c.strip_suffix.ensures.cases (lit< tt) in
    let body = c.in_ok-strip_suffix.field-0.now in
    let split : c.args.text.now ≡ body ++ 115 ∷ [] = rw c.in_ok-strip_suffix.was at parts in
    let some : before_unit c.args.text.now ≡ Some body = ap before_unit split ∙ before_unit-append body in
    c.signed_span.ensures ∙ sym (ap (option_and_then signed_span) some)
