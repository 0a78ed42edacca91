-- Passes that are taken out of a list, and others that are put last.
use Rattle.std.proofs.Common.{◌≡◌, ℕ, suc, List, [], ◌∷◌, ◌++◌, get_or, take, drop, Some, sym, subst, arith}
use Rattle.std.specs.Prelude.{All, slice_get}
use Rattle.std.specs.List.{remove}
use Rattle.std.proofs.lemmas.List.Elements.{All-append, All-cons, All-drop, All-take}
use Rattle.std.proofs.lemmas.Option.{get_or_from_slice_get, slice_get-get_or, slice_get_within}
use Rattle.atomic_table.specs.Seated.{TableId}
use Rattle.ev_gate.specs.declared.stands.Stands.{Ghosts}
use Rattle.ev_gate.specs.declared.gate.Pass.{Pass}
use Rattle.ev_gate.specs.Words.{pass_gate}

module _ {V O C : Type 0} {g : Ghosts V O C} where
  -- a pass of this gate
  abbrev pub IsOf : TableId → Pass V O C g → Type 0
  IsOf gate p = pass_gate p ≡ gate

  -- passes of this gate
  abbrev pub AreOf : TableId → List (Pass V O C g) → Type 0
  AreOf gate passes = (k : ℕ) (p : Pass V O C g) → slice_get passes k ≡ Some p → IsOf gate p

  all_of : (gate : TableId) (xs : List (Pass V O C g)) → AreOf gate xs → All (IsOf gate) xs
  all_of gate xs each = λ k x within. each k (get_or xs k x) (slice_get-get_or xs k x within)

  each_of : (gate : TableId) (xs : List (Pass V O C g)) → All (IsOf gate) xs → AreOf gate xs
  each_of gate xs all k x there = subst (IsOf gate) (get_or_from_slice_get xs k x x there) (all k x (slice_get_within xs k x there))

  -- one is taken out
  pub without : (gate : TableId) (xs ys : List (Pass V O C g)) (i : ℕ) → ys ≡ remove xs i → AreOf gate xs → AreOf gate ys
  without gate xs ys i is each =
      subst (AreOf gate) (sym is) (each_of gate (remove xs i)
      (All-append (IsOf gate) (take i xs) (drop (suc i) xs) (All-take (IsOf gate) i xs (all_of gate xs each)) (All-drop (IsOf gate) (suc i) xs (all_of gate xs each))))

  -- one is put last
  pub with_one : (gate : TableId) (xs ys : List (Pass V O C g)) (p : Pass V O C g) → ys ≡ xs ++ p ∷ [] → IsOf gate p → AreOf gate xs → AreOf gate ys
  with_one gate xs ys p is here each =
      subst (AreOf gate) (sym is) (each_of gate (xs ++ p ∷ [])
      (All-append (IsOf gate) xs (p ∷ []) (all_of gate xs each) (All-cons (IsOf gate) p [] here (λ k x within. absurd (omega arith)))))
