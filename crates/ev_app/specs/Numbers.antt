-- Numbers as words.
use Rattle.std.specs.Prelude.{ℕ, ◌≡◌, ◌≢◌, List, length, get_or}

-- there is no leading plus, and no zero before another byte
pub record IsPlain (bytes : List ℕ) : Type 0 where
  pub unsigned : get_or bytes 0 0 ≢ 43
  pub shortest : get_or bytes 0 0 ≡ 48 → length bytes ≡ 1
