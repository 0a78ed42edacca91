-- What `parse` gives of one digit or more.
use Rattle.std.proofs.Common.{◌≡◌, ℕ, ◌^◌, ◌<◌, ◌≤◌, ◌&&◌, List, length, Bool, true, false, Some, None, Result, Ok, Err, rules, arith, nat_lt, cond}
use Rattle.std.specs.Char.{is_ascii_digit}
use Rattle.std.specs.List.{list_all}
use Rattle.std.specs.Result.{OkIff, result_ok}
use Rattle.std.specs.Str.Parse.{ParsesUnsigned, digits_value}
use Rattle.std.proofs.lemmas.Str.Parse.{IsNumeralModel, numerals_by_value, parse_digits}
use Rattle.std.proofs.lemmas.Bool.Decides.{nat_tests}
use Rattle.ev_tree.specs.Scalars.{is_numeral, u32_text, is_seconds}

own : IsNumeralModel (λ ds. list_all is_ascii_digit ds ≡ true) (digits_value 10)
own = numerals_by_value _ (search rules)

digits_of_numeral : (longest : ℕ) (s : List ℕ) → is_numeral longest s ≡ true → (0 < length s) × (list_all is_ascii_digit s ≡ true)
digits_of_numeral longest s h = grind (arith, nat_tests)

parsed_u32 : {E : Type 0} (v : ℕ) (b : Bool) (r : Result ℕ E) (P : Type 0) → P → b ≡ true → OkIff r (P × (v < 2 ^ 32)) v → result_ok r ≡ cond (b && nat_lt v (2 ^ 32)) (Some v) None
parsed_u32 v b (Ok x) P p is h = grind (arith, nat_tests)
parsed_u32 v b (Err e) P p is h = let past : 2 ^ 32 ≤ v = grind (arith, nat_tests, h) in grind (arith, nat_tests)

-- a numeral of at most ten digits, parsed as a u32
pub u32_text_parsed : {E : Type 0} (s : List ℕ) (r : Result ℕ E) → ParsesUnsigned 32 10 s r → is_numeral 10 s ≡ true → result_ok r ≡ u32_text s
unfolding u32_text
u32_text_parsed s r parses is =
    let d = digits_of_numeral 10 s is in
    parsed_u32 (digits_value 10 s) (is_numeral 10 s) r (0 < length s) d.0 is (parse_digits own 32 s r parses d.1)

-- a numeral of at most twelve digits, parsed as a u64, at `Err`
pub seconds_at_err : {E : Type 0} (s : List ℕ) (e : E) (r : Result ℕ E) → ParsesUnsigned 64 10 s r → is_numeral 12 s ≡ true → r ≡ Err e → false ≡ is_seconds s
seconds_at_err s e r parses is was =
    let d = digits_of_numeral 12 s is in
    let h = parse_digits own 64 s r parses d.1 in
    let at : OkIff {E = _} (Err e) ((0 < length s) × (digits_value 10 s < 2 ^ 64)) (digits_value 10 s) = rw was at h in
    let past : 2 ^ 64 ≤ digits_value 10 s = grind (arith, nat_tests, at, d.0) in
    grind (arith, nat_tests)
