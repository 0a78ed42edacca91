-- A word is a number exactly where it is the number's decimal.
use Rattle.std.proofs.Common.{◌≡◌, true, Err, Ok, IsTrue, sym, subst}
use Rattle.ev_app.specs.Numbers.{IsPlain}
use Rattle.ev_app.proofs.NumberLemmas.{reads_decimal, decimal_is_plain, decimal_reads}
use Rattle.ev_app.proofs.numbers.number_of.Goals as goal

pub returns-then-not-is_plain-clause-none : goal.returns-then-not-is_plain-clause-none
returns-then-not-is_plain-clause-none c = λ none number small is.
    let plain : IsPlain c.args.text.now = subst IsPlain (sym is) (decimal_is_plain number small) in
    let told : IsTrue c.is_plain.result = c.is_plain.ensures.1 (subst IsPlain (sym c.as_bytes.ensures.value) plain) in
    let other = c.if-not-is_plain.true in
    cc

pub returns-in-Ok-clause-some : goal.returns-in-Ok-clause-some
returns-in-Ok-clause-some c =
    let told : c.is_plain.result ≡ true = search c.if-not-is_plain.false in
    let plain : IsPlain c.args.text.now = subst IsPlain c.as_bytes.ensures.value (c.is_plain.ensures.0 told) in
    reads_decimal c.args.text.now c.in-Ok.number c.parse.result plain c.parse.ensures.value.0 c.in-Ok.is

pub returns-in-Err-clause-none : goal.returns-in-Err-clause-none
returns-in-Err-clause-none c = λ none number small is.
    let no : Err c.in-Err.field-0 ≡ Ok number = decimal_reads c.args.text.now number (Err c.in-Err.field-0) small is c.in-Err.ensures.value.0 in
    cc
