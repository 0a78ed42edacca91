-- The bytes that were taken of a source.
use Rattle.std.proofs.Common.{◌≡◌, ℕ, List, [], ◌++◌, Option, None, Some}
use Rattle.std.specs.Io.KnownBytes.{IsAtEnd, prepend_known}

-- they are a prefix of those known to be left, and all of them at the end
pub front_of : (bytes taken : List ℕ) (after : Option (List ℕ)) → Some bytes ≡ prepend_known taken after → (rest : List ℕ) × (bytes ≡ taken ++ rest) × (IsAtEnd after → rest ≡ [])
front_of bytes taken None e = cc
front_of bytes taken (Some rest) e = let same : bytes ≡ taken ++ rest = cc in (rest, same, λ h. h)
