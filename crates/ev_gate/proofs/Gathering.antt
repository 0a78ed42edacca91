-- The passes as the first of them takes in the others, and the whole history at the end.
use Rattle.std.proofs.Common.{◌≡◌, ℕ, zero, suc, ◌+◌, ◌<◌, Bool, true, false, true≢false, eqb, List, [], ◌∷◌, ◌++◌, length, map, get_or, refl, sym, ap, ◌∙◌, subst, arith, append_assoc, Option, Some, All}
use Rattle.std.specs.Prelude.{slice_get, remove}
use Rattle.std.proofs.lemmas.Bool.{eqb-true}
use Rattle.std.proofs.lemmas.List.{append-nil}
use Rattle.atomic_table.specs.Seated.{TableId}
use Rattle.atomic_table.specs.declared.shared.Seat.{Seat}
use Rattle.ev_gate.specs.declared.stands.Stands.{Ghosts}
use Rattle.ev_gate.specs.declared.view.View.{View}
use Rattle.ev_gate.specs.declared.view.Joined.{Joined}
use Rattle.ev_gate.specs.declared.view.Terms.{Terms}
use Rattle.ev_gate.specs.declared.gate.Pass.{Pass}
use Rattle.ev_gate.specs.History.{Continues}
use Rattle.ev_gate.specs.Rule.{WasTold, joined, joined_view}
use Rattle.ev_gate.specs.Inner.{IsGathering, IsLast}
use Rattle.ev_gate.specs.Words.{AreAll, IsWhole, pass_knows}
use Rattle.ev_gate.proofs.Lists.{Some-injective}
use Rattle.ev_gate.proofs.Turning.{nil_of, same_mine}

module _ {A : Type 0} where
  first_and_rest : (xs : List A) (x : A) → 0 < length xs → x ≡ get_or xs 0 x → xs ≡ x ∷ remove xs 0
  first_and_rest [] x lt e = absurd (omega arith)
  first_and_rest (y ∷ ys) x lt e = ap (λ z. z ∷ ys) (sym e)

  get_after : (xs ys : List A) (y : A) → slice_get (xs ++ y ∷ ys) (length xs) ≡ Some y
  get_after [] ys y = refl
  get_after (x ∷ xs) ys y = get_after xs ys y

  get_mapped : {B : Type 0} (f : A → B) (xs : List A) (k : ℕ) (x : A) → slice_get xs k ≡ Some x → slice_get (map f xs) k ≡ Some (f x)
  get_mapped f [] k x e = absurd (cc)
  get_mapped f (y ∷ xs) zero x e = ap (λ z. Some (f z)) (Some-injective y x e)
  get_mapped f (y ∷ xs) (suc k) x e = get_mapped f xs k x e

  mapped_end : {B : Type 0} (f : A → B) (xs : List A) (x : A) → map f (xs ++ x ∷ []) ≡ map f xs ++ f x ∷ []
  mapped_end f [] x = refl
  mapped_end f (y ∷ xs) x = ap (λ l. f y ∷ l) (mapped_end f xs x)

  length_mapped : {B : Type 0} (f : A → B) (xs : List A) → length (map f xs) ≡ length xs
  length_mapped f [] = refl
  length_mapped f (x ∷ xs) = let h = length_mapped f xs in omega arith

-- a list that is not empty has an element
pub some_left : (n : ℕ) (empty : Bool) → empty ≡ eqb n 0 → empty ≡ false → 0 < n
some_left zero empty e is = absurd (true≢false (sym e ∙ is))
some_left (suc n) empty e is = omega arith

-- a list that is empty has none
pub none_left : (n : ℕ) (empty : Bool) → empty ≡ eqb n 0 → empty ≡ true → n ≡ 0
none_left n empty e is = eqb-true n 0 (sym e ∙ is)

module _ {V O C : Type 0} {g : Ghosts V O C} (gate : TableId) (seats : ℕ) (all : List (Pass V O C g)) (h : AreAll gate seats all) where
  -- the first pass leads
  pub gathering_starts : (rest : List (Pass V O C g)) (p : Pass V O C g) → 0 < length all → p ≡ get_or all 0 p → rest ≡ remove all 0 → IsGathering gate all rest p.seat
  gathering_starts rest p lt is rest_is =
      let all_are : all ≡ p ∷ rest = first_and_rest all p lt is ∙ ap (λ l. p ∷ l) (sym rest_is) in record {
        first = p;
        taken = [];
        all_are = all_are;
        gate_is = h.gate_is 0 p (ap (λ l. slice_get l 0) all_are);
        idle = p.idle;
        holds_nothing = nil_of p.seat.me.1 p.holds_nothing;
        leader_is = refl;
        told_are = nil_of p.seat.me.0.told p.took_in_nothing;
      }

  module _ (others : List (Pass V O C g)) (leader : Seat (Option V) (View O C)) (i : IsGathering gate all others leader) (p : Pass V O C g) (lt : 0 < length others) (is : p ≡ get_or others 0 p) where
    pub gate_next : p.seat.table_id ≡ gate
    gate_next = h.gate_is (suc (length i.taken)) p (ap (λ l. slice_get l (suc (length i.taken))) (i.all_are ∙ ap (λ l. i.first ∷ (i.taken ++ l)) (first_and_rest others p lt is)) ∙ get_after i.taken (remove others 0) p)

    -- the next pass is taken in
    pub gathering_more : (others' : List (Pass V O C g)) (leader' : Seat (Option V) (View O C)) → others' ≡ remove others 0 → leader'.table_id ≡ leader.table_id → leader'.me ≡ (joined_view leader.me.0 p.seat.me.0, leader.me.1) → IsGathering gate all others' leader'
    gathering_more others' leader' rest_is here me = record {
      first = i.first;
      taken = i.taken ++ p ∷ [];
      all_are = i.all_are ∙ ap (λ l. i.first ∷ (i.taken ++ l)) (first_and_rest others p lt is ∙ ap (λ l. p ∷ l) (sym rest_is)) ∙ ap (λ l. i.first ∷ l) (sym (append_assoc i.taken (p ∷ []) others'));
      gate_is = here ∙ i.gate_is;
      idle = (ap (λ m. m.0.spent) me ∙ i.idle.0, ap (λ m. m.0.queued) me ∙ i.idle.1, ap (λ m. m.0.serving) me ∙ i.idle.2);
      holds_nothing = ap (λ m. m.1) me ∙ i.holds_nothing;
      leader_is = ap (λ m. joined m.0) me ∙ i.leader_is;
      told_are = ap (λ m. m.0.told) me ∙ ap (λ l. l ++ joined p.seat.me.0 ∷ []) i.told_are ∙ sym (mapped_end (λ (q : Pass V O C g). joined q.seat.me.0) i.taken p);
    }

  -- all are in: the history is whole
  pub all_in : (leader : Seat (Option V) (View O C)) → IsGathering gate all [] leader → length leader.me.0.told + 1 ≡ seats
  all_in leader i =
      let n = h.count_is in
      let told : length leader.me.0.told ≡ length i.taken = ap length i.told_are ∙ length_mapped (λ (q : Pass V O C g). joined q.seat.me.0) i.taken in
      let count : length all ≡ suc (length i.taken) = ap length i.all_are ∙ ap (λ l. suc (length l)) (append-nil i.taken) in
      omega arith

  pub whole : (opening : V → O) (commits : V → List (ℕ × C)) (terms : Terms V) (leader : Seat (Option V) (View O C)) (value : V) → terms.seats ≡ seats → IsGathering gate all [] leader → IsLast opening commits terms leader.me.0 value → IsWhole (commits terms.value.value) (commits value) all
  whole opening commits terms leader value same i l = record {
    since = l.since;
    commits_are = l.commits_are;
    numbered = subst (λ n. All (λ c. c.0 < n) l.since) (same ∙ sym h.count_is) l.numbered;
    own = λ k p e. same_mine (pass_knows p).number (pass_knows p).since l.since (told k p e).seen;
    seen = λ k p e. begins (pass_knows p).start (pass_knows p).since (told k p e).start_is ((told k p e).seen.0, (told k p e).seen.1);
    heard = λ k p e. begins (pass_knows p).start p.seat.me.0.heard (told k p e).start_is (told k p e).heard;
  }
    where
      told_at : (k : ℕ) (p : Pass V O C g) → slice_get (i.first ∷ (i.taken ++ [])) k ≡ Some p → WasTold (commits terms.value.value) l.since (joined p.seat.me.0)
      told_at zero p e = subst (λ (q : Pass V O C g). WasTold (commits terms.value.value) l.since (joined q.seat.me.0)) (Some-injective i.first p e) (subst (λ (j : Joined C). WasTold (commits terms.value.value) l.since j) i.leader_is l.leader)
      told_at (suc k) p e =
          let there : slice_get i.taken k ≡ Some p = ap (λ xs. slice_get xs k) (sym (append-nil i.taken)) ∙ e in
          l.others k (joined p.seat.me.0) (ap (λ ts. slice_get ts k) i.told_are ∙ get_mapped (λ (q : Pass V O C g). joined q.seat.me.0) i.taken k p there)

      told : (k : ℕ) (p : Pass V O C g) → slice_get all k ≡ Some p → WasTold (commits terms.value.value) l.since (joined p.seat.me.0)
      told k p e = told_at k p (ap (λ xs. slice_get xs k) (sym i.all_are) ∙ e)

      begins : (start cs : List (ℕ × C)) → start ≡ commits terms.value.value → Continues cs l.since → Continues (start ++ cs) (commits value)
      begins start cs start_is c = (c.0, l.commits_are ∙ (λ k. sym start_is k ++ c.1 k) ∙ sym (append_assoc start cs c.0))
