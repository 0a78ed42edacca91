-- Two numbers are within a bound where the greater is.
use Rattle.std.proofs.Common.{◌≡◌, ℕ, ◌&&◌, max, arith}
use Rattle.std.specs.Prelude.{nat_le}

pub max_within : (a b room : ℕ) → nat_le (max a b) room ≡ (nat_le a room && nat_le b room)
max_within a b room = grind (arith)
