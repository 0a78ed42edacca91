-- A length is below four times another.
use Rattle.std.proofs.Common.{◌≡◌, ℕ, ◌*◌, ◌/◌, nat_lt, arith}
use Rattle.std.proofs.Math.Nat.{div-lt_iff_lt-mul}
use Rattle.std.proofs.lemmas.Bool.Decides.{nat_tests}

pub below_four_times : (length over : ℕ) → nat_lt (length / 4) over ≡ nat_lt length (4 * over)
below_four_times length over = grind (arith, nat_tests, div-lt_iff_lt-mul {k = 4} {x = length} {y = over} (omega arith))
