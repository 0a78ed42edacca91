-- Pseudo-random numbers: a linear congruential generator with Knuth's multiplier. The state is a number below 2^64.
use Rattle.std.specs.Prelude.{ℕ, zero, suc, ◌+◌, ◌*◌, ◌/◌, ◌%◌, ◌^◌}

-- the state that follows a state
unfoldable pub next_state : ℕ → ℕ
next_state x = (x * 6364136223846793005 + 1442695040888963407) % 2 ^ 64

-- the state after this many draws
abbrev pub behind : ℕ → ℕ → ℕ
behind zero x = x
behind (suc k) x = behind k (next_state x)

-- the number below n that the next draw gives, of the upper half of the state that follows
unfoldable pub drawn : ℕ → ℕ → ℕ
drawn n x = (next_state x / 2 ^ 33) % n
