-- Passes that go out to threads, each within an actor, and come back.
use Rattle.std.proofs.Common.{◌≡◌, ℕ, ◌+◌, ◌<◌, List, length, get_or, Option, Some}
use Rattle.std.specs.Prelude.{slice_get, IsSomeAnd}
use Rattle.atomic_table.specs.Seated.{TableId}
use Rattle.ev_gate.specs.declared.stands.Stands.{Ghosts}
use Rattle.ev_gate.specs.declared.gate.Pass.{Pass}
use Rattle.ev_gate.specs.Words.{IsPassOf, pass_gate}

module _ {V O C A : Type 0} {g : Ghosts V O C} where
  -- each actor has the pass of its place
  abbrev pub AreReady : TableId → List A → (A → Option (Pass V O C g)) → Type 0
  AreReady gate actors pass_in = (i : ℕ) (d : A) → i < length actors → IsSomeAnd (pass_in (get_or actors i d)) (IsPassOf gate i)

  -- the actors have the first of the passes, and the others are still here
  pub record AreLeaving (gate : TableId) (total : ℕ) (actors : List A) (pass_in : A → Option (Pass V O C g)) (passes : List (Pass V O C g)) : Type 0 where
    pub count_is : length actors + length passes ≡ total
    pub ready : AreReady gate actors pass_in
    pub here : (k : ℕ) (d : Pass V O C g) → k < length passes → IsPassOf gate (length actors + k) (get_or passes k d)

  -- the last of the passes are back, and the actors have the others
  pub record AreReturning (gate : TableId) (total : ℕ) (actors : List A) (pass_in : A → Option (Pass V O C g)) (passes : List (Pass V O C g)) : Type 0 where
    pub count_is : length actors + length passes ≡ total
    pub ready : AreReady gate actors pass_in
    pub back : (k : ℕ) (p : Pass V O C g) → slice_get passes k ≡ Some p → pass_gate p ≡ gate
