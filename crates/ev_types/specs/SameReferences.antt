-- When references are equal.
use Rattle.std.specs.Prelude.{Bool, ◌≡◌, ◌&&◌, List}
use Rattle.std.specs.Bool.{Decides}
use Rattle.std.specs.Str.{bytes_eq}
use Rattle.std.proofs.Common.{ap}
use lib.Pointwise.{pointwise, pointwise_decides}
use Rattle.ev_types.specs.declared.references.Reference.{Reference}
use Rattle.ev_types.specs.Same.{bool_same, bool_decides, both_decide, decides_as, bytes_decide}

-- the same name under the same kind of time limit
abbrev pub reference_same : Reference → Reference → Bool
reference_same a b = bytes_eq a.name b.name && bool_same a.limited b.limited

-- the same references in the same order
abbrev pub references_same : List Reference → List Reference → Bool
references_same a b = pointwise reference_same a b

pub reference_decides : (a b : Reference) → Decides (reference_same a b) (a ≡ b)
reference_decides a b = decides_as (both_decide (bytes_decide a.name b.name) (bool_decides a.limited b.limited))
    (λ (p, q). λ i. record { name = p i; limited = q i })
    (λ e. (ap (λ (r : Reference). r.name) e, ap (λ (r : Reference). r.limited) e))

pub references_decide : (a b : List Reference) → Decides (references_same a b) (a ≡ b)
references_decide = pointwise_decides reference_decides
