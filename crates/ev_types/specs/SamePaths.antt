-- When matches of paths are equal.
use Rattle.std.specs.Prelude.{Bool, false, ◌≡◌}
use Rattle.std.specs.Bool.{Decides}
use Rattle.std.specs.Str.{bytes_eq}
use Rattle.std.proofs.Common.{ap}
use Rattle.ev_types.specs.declared.routes.PathMatch.{PathMatch}
use Rattle.ev_types.specs.declared.routes.PathMatch.TheVariants.{Prefix, Path, Separated}
use Rattle.ev_types.specs.Same.{decides_as, bytes_decide}

-- the same kind of match of the same text
abbrev pub path_match_same : PathMatch → PathMatch → Bool
path_match_same (Prefix a) (Prefix b) = bytes_eq a b
path_match_same (Path a) (Path b) = bytes_eq a b
path_match_same (Separated a) (Separated b) = bytes_eq a b
path_match_same a b = false

pub path_match_decides : (a b : PathMatch) → Decides (path_match_same a b) (a ≡ b)
path_match_decides (Prefix a) (Prefix b) = decides_as (bytes_decide a b) (λ e. ap Prefix e) (λ e. cc)
path_match_decides (Path a) (Path b) = decides_as (bytes_decide a b) (λ e. ap Path e) (λ e. cc)
path_match_decides (Separated a) (Separated b) = decides_as (bytes_decide a b) (λ e. ap Separated e) (λ e. cc)
path_match_decides a b = (λ h. cc, λ e. cc)
