-- When ways of connections are equal.
use Rattle.std.specs.Prelude.{ℕ, Bool, true, false, ◌≡◌, ◌&&◌, ◌==◌, refl}
use Rattle.std.specs.Bool.{Decides}
use Rattle.std.specs.Option.{option_eq}
use Rattle.std.proofs.Common.{ap}
use Rattle.ev_types.specs.declared.ways.Way.{Way}
use Rattle.ev_types.specs.declared.ways.Way.TheVariants.{Undecided, Elsewhere, NoRoute, Redirect, NoCluster, NoEndpoint, NoSecret, Local, Served}
use Rattle.ev_types.specs.Same.{both_decide, decides_as, numbers_decide, option_decides}

-- the same way, with the same content, by a test of how hosts are named
abbrev pub way_same : {H : Type 0} → (H → H → Bool) → Way H → Way H → Bool
way_same same Undecided Undecided = true
way_same same (Elsewhere cluster) (Elsewhere cluster') = option_eq (λ (m n : ℕ). m == n) cluster cluster'
way_same same NoRoute NoRoute = true
way_same same Redirect Redirect = true
way_same same NoCluster NoCluster = true
way_same same NoEndpoint NoEndpoint = true
way_same same (NoSecret cluster) (NoSecret cluster') = option_eq (λ (m n : ℕ). m == n) cluster cluster'
way_same same (Local status) (Local status') = status == status'
way_same same (Served cluster host) (Served cluster' host') = (cluster == cluster') && same host host'
way_same same a b = false

pub way_decides : {H : Type 0} {same : H → H → Bool} → ((a b : H) → Decides (same a b) (a ≡ b)) → (a b : Way H) → Decides (way_same same a b) (a ≡ b)
way_decides decide Undecided Undecided = (λ h. refl, λ e. refl)
way_decides decide (Elsewhere cluster) (Elsewhere cluster') = decides_as (option_decides numbers_decide cluster cluster') (λ e. ap Elsewhere e) (λ e. cc)
way_decides decide NoRoute NoRoute = (λ h. refl, λ e. refl)
way_decides decide Redirect Redirect = (λ h. refl, λ e. refl)
way_decides decide NoCluster NoCluster = (λ h. refl, λ e. refl)
way_decides decide NoEndpoint NoEndpoint = (λ h. refl, λ e. refl)
way_decides decide (NoSecret cluster) (NoSecret cluster') = decides_as (option_decides numbers_decide cluster cluster') (λ e. ap NoSecret e) (λ e. cc)
way_decides decide (Local status) (Local status') = decides_as (numbers_decide status status') (λ e. ap Local e) (λ e. cc)
way_decides decide (Served cluster host) (Served cluster' host') =
    decides_as (both_decide (numbers_decide cluster cluster') (decide host host')) (λ (p, q). λ i. Served (p i) (q i)) (λ e. (cc, cc))
way_decides decide a b = (λ h. cc, λ e. cc)
