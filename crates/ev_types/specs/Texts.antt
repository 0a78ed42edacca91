-- Texts and names, as lists of bytes.
use Rattle.std.specs.Prelude.{ℕ, ◌≤◌, List, length}
use Rattle.ev_types.specs.declared.limits.TheConstants.{MAX_NAME_LENGTH}

-- a name has 1 to 512 bytes
pub record IsName (bytes : List ℕ) : Type 0 where
  pub given : 1 ≤ length bytes
  pub short : length bytes ≤ MAX_NAME_LENGTH
