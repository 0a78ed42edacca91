-- A word is a number's decimal exactly where it reads as that number, without a sign and a leading zero.
use Rattle.std.proofs.Common.{◌≡◌, ℕ, zero, suc, ◌<◌, ◌^◌, ◌∙◌, List, [], ◌∷◌, length, get_or, Result, Ok, Err, sym, ap, subst, arith, lit<, refl}
use Rattle.std.specs.Fmt.{decimal}
use Rattle.std.specs.Str.Parse.{ParsesUnsigned, AllDigits, digits_value}
use Rattle.std.specs.Result.{OkIff}
use Rattle.std.proofs.lemmas.Fmt.{parse-decimal, decimal_digit, first_decimal, decimal-digits_value}
use Rattle.std.proofs.lemmas.Str.Parse.{IsNumeralModel, numerals_by_value, tells_digits, parse_plain}
use Rattle.ev_app.specs.Numbers.{IsPlain}

own : IsNumeralModel (AllDigits 10) (digits_value 10)
own = numerals_by_value (AllDigits 10) tells_digits

-- what follows from a number that was read
number_read : {E : Type 0} (result : Result ℕ E) (number value : ℕ) (P : Type 0) → result ≡ Ok number → OkIff result P value → P × (number ≡ value)
number_read (Ok found) number value P e told = let same : found ≡ number = cc in (told.0, sym same ∙ told.1)
number_read (Err error) number value P e told = cc

-- what is read of a plain word is written as the word
pub reads_decimal : {E : Type 0} (bytes : List ℕ) (number : ℕ) (result : Result ℕ E) → IsPlain bytes → ParsesUnsigned 64 10 bytes result → result ≡ Ok number → bytes ≡ decimal number
reads_decimal bytes number result plain parses ok =
    let told : (AllDigits 10 bytes × (0 < length bytes) × (digits_value 10 bytes < 2 ^ 64)) × (number ≡ digits_value 10 bytes) =
    number_read result number (digits_value 10 bytes) (AllDigits 10 bytes × (0 < length bytes) × (digits_value 10 bytes < 2 ^ 64)) ok
    (parse_plain own 64 bytes result parses plain.unsigned) in
    sym (decimal-digits_value own bytes told.0.0 told.0.1 plain.shortest told.0.2) ∙ ap decimal (sym told.1)

-- a decimal is a plain word
pub decimal_is_plain : (number : ℕ) → number < 2 ^ 64 → IsPlain (decimal number)
decimal_is_plain zero small =
    let e : decimal zero ≡ 48 ∷ [] = decimal_digit 0 (lit< tt) in
    subst IsPlain (sym e) (record { unsigned = λ h. absurd (omega (arith, h)); shortest = λ h. refl })
decimal_is_plain (suc n) small =
    let first : 48 < get_or (decimal (suc n)) 0 0 = first_decimal (suc n) (omega arith) small in
    record { unsigned = λ h. absurd (omega (arith, h, first)); shortest = λ h. absurd (omega (arith, h, first)) }

-- a number's decimal reads as the number
pub decimal_reads : {E : Type 0} (bytes : List ℕ) (number : ℕ) (result : Result ℕ E) → number < 2 ^ 64 → bytes ≡ decimal number → ParsesUnsigned 64 10 bytes result → result ≡ Ok number
decimal_reads bytes number result small is parses = parse-decimal 64 number bytes result small small is parses
