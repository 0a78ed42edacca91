-- Passes as they are made.
use Rattle.std.proofs.Common.{◌≡◌, ℕ, suc, ◌+◌, List, [], ◌∷◌, ◌++◌, length, sym, ap, ◌∙◌, subst, ⊎_elim, arith, length-append, Option, Some}
use Rattle.std.specs.Prelude.{slice_get}
use Rattle.atomic_table.specs.Seated.{TableId}
use Rattle.ev_gate.specs.declared.stands.Stands.{Ghosts}
use Rattle.ev_gate.specs.declared.view.View.{View}
use Rattle.ev_gate.specs.declared.gate.Pass.{Pass}
use Rattle.atomic_table.specs.declared.shared.Seat.{Seat}
use Rattle.ev_gate.specs.Rule.{new_view, left_view, right_view}
use Rattle.ev_gate.proofs.Lists.{get_at_end}
use Rattle.ev_gate.specs.Inner.{AreSeated, IsSeating}

module _ {A : Type 0} where
  pub one_longer : (xs ys : List A) (x : A) → ys ≡ xs ++ x ∷ [] → length ys ≡ length xs + 1
  one_longer xs ys x e = ap length e ∙ length-append xs (x ∷ [])

module _ {V O C : Type 0} {g : Ghosts V O C} (gate : TableId) (opening : O) (start : List (ℕ × C)) (version : ℕ) where
  -- one more
  pub seated_more : (passes : List (Pass V O C g)) (p : Pass V O C g) → AreSeated gate opening start version passes → p.seat.table_id ≡ gate → p.seat.me ≡ (new_view (suc (length passes)) 0 (Some opening) start version, []) → AreSeated gate opening start version (passes ++ p ∷ [])
  seated_more passes p h here is = record {
    gate_is = λ k q e. ⊎_elim
        (λ (t : slice_get passes k ≡ Some q). h.gate_is k q t)
        (λ (t : (k ≡ length passes) × (p ≡ q)). ap (λ (x : Pass V O C g). x.seat.table_id) (sym t.1) ∙ here)
        (get_at_end passes p q k e);
    me_is = λ k q e. ⊎_elim
        (λ (t : slice_get passes k ≡ Some q). h.me_is k q t)
        (λ (t : (k ≡ length passes) × (p ≡ q)). ap (λ (x : Pass V O C g). x.seat.me) (sym t.1) ∙ is ∙ ap (λ n. (new_view (suc n) 0 (Some opening) start version, [])) (sym t.0))
        (get_at_end passes p q k e);
  }

  -- the leader makes one seat more
  pub seating_more : (made : ℕ) (leader leader' : Seat (Option V) (View O C)) (passes passes' : List (Pass V O C g)) (p : Pass V O C g)
      → IsSeating gate made opening start version leader passes
      → leader'.table_id ≡ leader.table_id → leader'.me ≡ (left_view leader.me.0, leader.me.1) → p.seat.table_id ≡ leader.table_id → p.seat.me ≡ (right_view leader.me.0, []) → passes' ≡ passes ++ p ∷ []
      → IsSeating gate (made + 1) opening start version leader' passes'
  seating_more made leader leader' passes passes' p i here me here' me' is =
      let count : made ≡ suc (length passes) = (let n = i.count_is in omega arith) in record {
        leads = record { gate_is = here ∙ i.leads.gate_is; me_is = me ∙ ap (λ m. (left_view m.0, m.1)) i.leads.me_is };
        others = subst (λ l. AreSeated gate opening start version l) (sym is)
            (seated_more passes p i.others (here' ∙ i.leads.gate_is) (me' ∙ ap (λ m. (right_view m.0, [])) i.leads.me_is ∙ ap (λ n. (new_view n 0 (Some opening) start version, [])) count));
        count_is = (let n = i.count_is in let l = one_longer passes passes' p is in omega arith);
      }
