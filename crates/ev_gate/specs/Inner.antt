-- What the steps of making and closing a gate keep.
use Rattle.std.specs.Prelude.{◌≡◌, ℕ, suc, ◌+◌, ◌%◌, ◌^◌, ◌<◌, ◌≤◌, map, List, [], ◌∷◌, ◌++◌, length, slice_get, Option, Some, None, true, false, All}
use Rattle.atomic_table.specs.Seated.{TableId}
use Rattle.atomic_table.specs.declared.shared.Seat.{Seat}
use Rattle.ev_gate.specs.declared.stands.Stands.{Ghosts}
use Rattle.ev_gate.specs.declared.view.View.{View}
use Rattle.ev_gate.specs.declared.view.Joined.{Joined}
use Rattle.ev_gate.specs.declared.view.Terms.{Terms}
use Rattle.ev_gate.specs.declared.gate.Pass.{Pass}
use Rattle.ev_gate.specs.Rule.{new_view, joined, WasTold}
use Rattle.ev_gate.specs.History.{Continues, GrowsWithout}

module _ {V O C : Type 0} where
  -- the first seat, when this many seats are made
  pub record IsLeader (gate : TableId) (made : ℕ) (opening : O) (start : List (ℕ × C)) (version : ℕ) (it : Seat (Option V) (View O C)) : Type 0 where
    pub gate_is : it.table_id ≡ gate
    pub me_is : it.me ≡ (new_view 0 made (Some opening) start version, [])

  -- the other seats made so far, from seat 1 on
  pub record AreSeated {g : Ghosts V O C} (gate : TableId) (opening : O) (start : List (ℕ × C)) (version : ℕ) (passes : List (Pass V O C g)) : Type 0 where
    pub gate_is : (k : ℕ) (p : Pass V O C g) → slice_get passes k ≡ Some p → p.seat.table_id ≡ gate
    pub me_is : (k : ℕ) (p : Pass V O C g) → slice_get passes k ≡ Some p → p.seat.me ≡ (new_view (suc k) 0 (Some opening) start version, [])

  -- while the leader makes seats: this many are made, and all but its own have passes
  pub record IsSeating {g : Ghosts V O C} (gate : TableId) (made : ℕ) (opening : O) (start : List (ℕ × C)) (version : ℕ) (leader : Seat (Option V) (View O C)) (passes : List (Pass V O C g)) : Type 0 where
    pub leads : IsLeader gate made opening start version leader
    pub others : AreSeated gate opening start version passes
    pub count_is : length passes + 1 ≡ made

module _ {V O C : Type 0} where
  -- The seat has drawn this ticket, as the word had it. What it knows is as before.
  pub record IsWaiting (ticket : ℕ) (before it : Seat (Option V) (View O C)) : Type 0 where
    pub gate_is : it.table_id ≡ before.table_id
    pub view_is : it.me.0 ≡ record before.me.0 { queued = true; ticket = it.me.0.ticket }
    pub ticket_is : it.me.0.ticket % 2 ^ 64 ≡ ticket
    pub holds_nothing : it.me.1 ≡ []

  -- the seat is served: it holds the slot with a value that represents all that it has now seen,
  -- of which nothing new is its own
  pub record IsServed (opening : V → O) (commits : V → List (ℕ × C)) (version_of : O → List (ℕ × C) → ℕ) (before it : Seat (Option V) (View O C)) : Type 0 where
    pub value : V
    pub gate_is : it.table_id ≡ before.table_id
    pub view_is : it.me.0 ≡ record before.me.0 { queued = true; ticket = it.me.0.ticket; serving = true; since = it.me.0.since }
    pub held : it.me.1 ≡ (0, Some value) ∷ []
    pub seen : GrowsWithout before.me.0.number before.me.0.since it.me.0.since
    pub opening_is : Some (opening value) ≡ before.me.0.opening
    pub heard : Continues before.me.0.heard it.me.0.since
    pub commits_are : commits value ≡ before.me.0.start ++ it.me.0.since
    pub not_below : version_of (opening value) (before.me.0.start ++ before.me.0.heard) ≤ version_of (opening value) (commits value)

  -- the same where the seat has taken the value out of the slot
  pub record HasTurn (opening : V → O) (commits : V → List (ℕ × C)) (version_of : O → List (ℕ × C) → ℕ) (before it : Seat (Option V) (View O C)) (value : V) : Type 0 where
    pub gate_is : it.table_id ≡ before.table_id
    pub view_is : it.me.0 ≡ record before.me.0 { queued = true; ticket = it.me.0.ticket; serving = true; since = it.me.0.since }
    pub held : it.me.1 ≡ (0, None) ∷ []
    pub seen : GrowsWithout before.me.0.number before.me.0.since it.me.0.since
    pub opening_is : Some (opening value) ≡ before.me.0.opening
    pub heard : Continues before.me.0.heard it.me.0.since
    pub commits_are : commits value ≡ before.me.0.start ++ it.me.0.since
    pub not_below : version_of (opening value) (before.me.0.start ++ before.me.0.heard) ≤ version_of (opening value) (commits value)

module _ {V O C : Type 0} where
  -- The first of the passes has taken in all but the others, and remembers what they knew.
  pub record IsGathering {g : Ghosts V O C} (gate : TableId) (all others : List (Pass V O C g)) (leader : Seat (Option V) (View O C)) : Type 0 where
    pub first : Pass V O C g
    pub taken : List (Pass V O C g)
    pub all_are : all ≡ first ∷ taken ++ others
    pub gate_is : leader.table_id ≡ gate
    pub idle : (leader.me.0.spent ≡ false) × (leader.me.0.queued ≡ false) × (leader.me.0.serving ≡ false)
    pub holds_nothing : leader.me.1 ≡ []
    pub leader_is : joined leader.me.0 ≡ joined first.seat.me.0
    pub told_are : leader.me.0.told ≡ map (λ (p : Pass V O C g). joined p.seat.me.0) taken

  -- the last value of a gate, and that what its last seat and those that it took in knew is so
  pub record IsLast (opening : V → O) (commits : V → List (ℕ × C)) (terms : Terms V) (v : View O C) (value : V) : Type 0 where
    pub since : List (ℕ × C)
    pub opening_is : opening value ≡ opening terms.value.value
    pub commits_are : commits value ≡ commits terms.value.value ++ since
    pub leader : WasTold (commits terms.value.value) since (joined v)
    pub others : (k : ℕ) (e : Joined C) → slice_get v.told k ≡ Some e → WasTold (commits terms.value.value) since e
    pub numbered : All (λ c. c.0 < terms.seats) since
