-- What `parse` gives of 1 to 19 digits, and a text that begins with no minus.
use Rattle.std.proofs.Common.{◌≡◌, ℕ, ◌^◌, ◌<◌, ◌≤◌, List, [], ◌∷◌, length, Bool, true, false, Result, Ok, refl, ap, rules, arith, nat_eq, cond, option_and_then}
use Rattle.std.specs.Char.{is_ascii_digit}
use Rattle.std.specs.List.{list_all}
use Rattle.std.specs.Result.{result_ok}
use Rattle.std.specs.Str.Parse.{ParsesUnsigned, digits_value}
use Rattle.std.proofs.lemmas.Str.Parse.{IsNumeralModel, numerals_by_value, parse_gives, digits_value_short}
use Rattle.std.proofs.lemmas.Bool.Decides.{nat_tests}
use Rattle.ev_types.specs.Decimals.{is_numeral, magnitude_of, as_positive, as_negative, decimal_of}

own : IsNumeralModel (λ ds. list_all is_ascii_digit ds ≡ true) (digits_value 10)
own = numerals_by_value _ (search rules)

record IsShort (s : List ℕ) : Type 0 where
  some : 0 < length s
  short : length s ≤ 19
  digits : list_all is_ascii_digit s ≡ true

is_short : (s : List ℕ) → is_numeral 19 s ≡ true → IsShort s
is_short s h = record { some = grind (arith, nat_tests); short = grind (arith, nat_tests); digits = grind (arith, nat_tests) }

-- nineteen digits, parsed as a u64
pub magnitude_parsed : {E : Type 0} (s : List ℕ) (r : Result ℕ E) → ParsesUnsigned 64 10 s r → is_numeral 19 s ≡ true → result_ok r ≡ magnitude_of s
unfolding magnitude_of
magnitude_parsed s r parses is =
    let d = is_short s is in
    let below : digits_value 10 s < 10 ^ 19 = digits_value_short own s 19 d.digits d.short in
    let fits : digits_value 10 s < 2 ^ 64 = omega arith in
    let e : r ≡ Ok (digits_value 10 s) = parse_gives own 64 s r parses d.digits d.some fits in
    rw (e, is) refl

-- a text that doesn't begin with a minus
pub decimal_plain : (s : List ℕ) → ((rest : List ℕ) → s ≡ 45 ∷ rest → ⊥) → decimal_of s ≡ option_and_then as_positive (magnitude_of s)
unfolding decimal_of magnitude_of
decimal_plain [] other = refl
decimal_plain (c ∷ cs) other = by_test (nat_eq c 45) refl
  where
    by_test : (b : Bool) → nat_eq c 45 ≡ b
        → cond b (option_and_then as_negative (magnitude_of cs)) (option_and_then as_positive (magnitude_of (c ∷ cs))) ≡ option_and_then as_positive (magnitude_of (c ∷ cs))
    by_test true e = let same : c ≡ 45 = grind (arith, nat_tests) in absurd (other cs (ap (λ n. n ∷ cs) same))
    by_test false e = refl
