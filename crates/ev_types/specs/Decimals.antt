-- Whole numbers of 64 bits with a sign, as decimal texts write them. Source: 64-bit integers in protobuf's JSON
-- mapping.
use Rattle.std.specs.Prelude.{ℕ, ◌^◌, ◌&&◌, ◌==◌, ℤ, pos, neg_ℤ, List, [], ◌∷◌, length, Bool, nat_lt, nat_le, if◌then◌else◌, Option, Some, None, option_and_then}
use Rattle.std.specs.List.{list_all}
use Rattle.std.specs.Char.{is_ascii_digit}
use Rattle.std.specs.Str.Parse.{digits_value}
use Rattle.ev_types.specs.declared.limits.TheConstants.{MAX_DECIMAL_DIGITS}

-- one digit to `longest` digits, and nothing else
abbrev pub is_numeral : ℕ → List ℕ → Bool
is_numeral longest s = nat_lt 0 (length s) && (nat_le (length s) longest && list_all is_ascii_digit s)

-- the number that 1 to 19 digits write
unfoldable pub magnitude_of : List ℕ → Option ℕ
magnitude_of s = if is_numeral MAX_DECIMAL_DIGITS s then Some (digits_value 10 s) else None

-- a number without a sign, where 64 bits with a sign hold it
abbrev pub as_positive : ℕ → Option ℤ
as_positive n = if nat_lt n (2 ^ 63) then Some (pos n) else None

-- the same after a minus
abbrev pub as_negative : ℕ → Option ℤ
as_negative n = if nat_le n (2 ^ 63) then Some (neg_ℤ (pos n)) else None

-- the number that a decimal text writes: a minus or none, then 1 to 19 digits, which may begin with zeros
unfoldable pub decimal_of : List ℕ → Option ℤ
decimal_of [] = None
decimal_of (c ∷ cs) =
    if c == 45 then option_and_then as_negative (magnitude_of cs) else option_and_then as_positive (magnitude_of (c ∷ cs))
