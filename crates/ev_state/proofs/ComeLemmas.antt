-- What the tables of the managers say of a name's coming is what the world says.
use Rattle.std.proofs.Common.{◌≡◌, ◌∙◌, ℕ, Bool, ◌&&◌, ◌||◌, List, [], ◌∷◌, Option, None, Some, refl, ap}
use Rattle.std.specs.List.{list_all}
use Rattle.ev_types.specs.declared.contents.Kind.TheVariants.{Cds, Lds}
use Rattle.ev_model.specs.World.{World}
use Rattle.ev_model.specs.Phase.{has_come, have_come, phase_from}
use Rattle.ev_model.specs.Tidy.{with_phase}
use Rattle.ev_lookups.specs.Keys.{named}
use Rattle.ev_indexes.specs.Indexes.{IsIndexed}
use Rattle.ev_indexes.specs.Worlds.{HasRows}
use Rattle.ev_indexes.specs.declared.state.State.{State}
use Rattle.ev_indexes.proofs.NewestLemmas.{come-world}
use Rattle.ev_state.specs.InitTargets.{InitTargetsParts, HaveBooted, comes_in, clusters_come, listeners_come}

all_same : (p q : List ℕ → Bool) → ((name : List ℕ) → p name ≡ q name) → (names : List (List ℕ)) → list_all p names ≡ list_all q names
all_same p q same [] = refl
all_same p q same (name ∷ names) = λ i. same name i && all_same p q same names i

-- the first of a kind have come by the one test where they have by another that agrees
pub have_come-same : (late : Bool) (p q : List ℕ → Bool) (first : Option (List (List ℕ))) → ((name : List ℕ) → p name ≡ q name) → have_come late p first ≡ have_come late q first
have_come-same late p q None same = refl
have_come-same late p q (Some names) same = ap (λ b. late || b) (all_same p q same names)

-- where both represent a world, the phase that follows is the world's
pub phase-stands : (t : InitTargetsParts) (s : State) (world : World) → IsIndexed s → HaveBooted t world → HasRows s world
    → HaveBooted (record t { phase = phase_from (clusters_come t s) (listeners_come t s) t.phase }) (with_phase world)
phase-stands t s world x booted stands = record {
  phase =
      (λ i. phase_from (have_come (booted.late_clusters i) (comes_in Cds s) (booted.first_clusters i)) (have_come (booted.late_listeners i) (comes_in Lds s) (booted.first_listeners i)) (booted.phase i))
      ∙ (λ i. phase_from
      (have_come-same world.late_clusters (comes_in Cds s) (has_come world.rows Cds) world.first_clusters (λ name. come-world s world (named Cds name) x stands) i)
      (have_come-same world.late_listeners (comes_in Lds s) (has_come world.rows Lds) world.first_listeners (λ name. come-world s world (named Lds name) x stands) i) world.phase);
  first_clusters = booted.first_clusters;
  first_listeners = booted.first_listeners;
  late_clusters = booted.late_clusters;
  late_listeners = booted.late_listeners;
}
