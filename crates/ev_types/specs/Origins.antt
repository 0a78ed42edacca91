-- Places of filter chains, where chains began, and when these are equal.
use Rattle.std.specs.Prelude.{Bool, true, false, ◌≡◌, ◌&&◌, ◌==◌, refl}
use Rattle.std.specs.Bool.{Decides}
use Rattle.std.proofs.Common.{ap}
use Rattle.ev_types.specs.declared.origins.ChainPlace.{ChainPlace}
use Rattle.ev_types.specs.declared.origins.ChainPlace.TheVariants.{At, Default}
use Rattle.ev_types.specs.declared.origins.Origin.{Origin}
use Rattle.ev_types.specs.Same.{both_decide, decides_as, numbers_decide}

-- the same chain of a listener
abbrev pub chain_place_same : ChainPlace → ChainPlace → Bool
chain_place_same (At place) (At place') = place == place'
chain_place_same Default Default = true
chain_place_same a b = false

-- the same generation and place
abbrev pub origin_same : Origin → Origin → Bool
origin_same a b = (a.listener == b.listener) && chain_place_same a.place b.place

pub chain_place_decides : (a b : ChainPlace) → Decides (chain_place_same a b) (a ≡ b)
chain_place_decides (At place) (At place') = decides_as (numbers_decide place place') (λ e. ap At e) (λ e. cc)
chain_place_decides Default Default = (λ h. refl, λ e. refl)
chain_place_decides a b = (λ h. cc, λ e. cc)

pub origin_decides : (a b : Origin) → Decides (origin_same a b) (a ≡ b)
origin_decides a b = decides_as (both_decide (numbers_decide a.listener b.listener) (chain_place_decides a.place b.place))
    (λ (p, q). λ i. record { listener = p i; place = q i })
    (λ e. (ap (λ (o : Origin). o.listener) e, ap (λ (o : Origin). o.place) e))
