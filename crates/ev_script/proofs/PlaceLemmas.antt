-- Places at which lines end.
use Rattle.std.proofs.Common.{◌≡◌, ℕ, zero, suc, ◌<◌, ◌≤◌, Bool, true, false, cond, List, [], ◌∷◌, length, take, get_or, eqb, eq-eqb, sym, ap, subst, inl, inr, arith}
use Rattle.std.proofs.lemmas.List.{take_all}
use Rattle.ev_io.specs.Lines.{lines_of, onto_first, feeds_in}
use Rattle.ev_script.specs.Faults.{Input, index_at, EndsLine}

-- before an earlier place there are no more line feeds
pub feeds_up_to : (bs : List ℕ) (p q : ℕ) → p ≤ q → feeds_in (take p bs) ≤ feeds_in (take q bs)
feeds_up_to bs zero q h = omega arith
feeds_up_to bs (suc p) zero h = absurd (omega arith)
feeds_up_to [] (suc p) (suc q) h = omega arith
feeds_up_to (b ∷ bs) (suc p) (suc q) h = by_test (eqb b 10) (feeds_up_to bs p q (omega arith))
  where
    by_test : (t : Bool) → feeds_in (take p bs) ≤ feeds_in (take q bs) → cond t (suc (feeds_in (take p bs))) (feeds_in (take p bs)) ≤ cond t (suc (feeds_in (take q bs))) (feeds_in (take q bs))
    by_test true k = omega arith
    by_test false k = k

-- before a place after a line feed there are more than before it
pub feeds_below : (bs : List ℕ) (p q : ℕ) → p < q → p < length bs → get_or bs p 0 ≡ 10 → feeds_in (take p bs) < feeds_in (take q bs)
feeds_below bs p zero h within e = absurd (omega arith)
feeds_below [] p (suc q) h within e = absurd (omega arith)
feeds_below (b ∷ bs) zero (suc q) h within e =
    let feed : eqb b 10 ≡ true = eq-eqb b 10 e in
    subst (λ (t : Bool). 0 < cond t (suc (feeds_in (take q bs))) (feeds_in (take q bs))) (sym feed) (omega arith)
feeds_below (b ∷ bs) (suc p) (suc q) h within e = by_test (eqb b 10) (feeds_below bs p q (omega arith) (omega arith) e)
  where
    by_test : (t : Bool) → feeds_in (take p bs) < feeds_in (take q bs) → cond t (suc (feeds_in (take p bs))) (feeds_in (take p bs)) < cond t (suc (feeds_in (take q bs))) (feeds_in (take q bs))
    by_test true k = omega arith
    by_test false k = k

-- there are no more line feeds than lines
pub feeds_in-lines : (bs : List ℕ) → feeds_in bs ≤ length (lines_of bs)
feeds_in-lines [] = omega arith
feeds_in-lines (b ∷ bs) = by_test (eqb b 10) (lines_of bs) (feeds_in-lines bs)
  where
    by_test : (t : Bool) (rest : List (List ℕ)) → feeds_in bs ≤ length rest → cond t (suc (feeds_in bs)) (feeds_in bs) ≤ length (cond t ([] ∷ rest) (onto_first b rest))
    by_test true rest k = omega arith
    by_test false [] k = omega arith
    by_test false (line ∷ rest) k = k

-- a line that ends at a place is one of the lines
pub ends_within : (input : Input) (place : ℕ) → EndsLine input place → index_at input place < length (lines_of input.bytes)
ends_within input place (inl feed) =
    let below : feeds_in (take place input.bytes) < feeds_in (take (length input.bytes) input.bytes) = feeds_below input.bytes place (length input.bytes) feed.0 feed.0 feed.1 in
    let all : feeds_in (take (length input.bytes) input.bytes) ≡ feeds_in input.bytes = ap feeds_in (take_all (length input.bytes) input.bytes (omega arith)) in
    let lines : feeds_in input.bytes ≤ length (lines_of input.bytes) = feeds_in-lines input.bytes in
    omega arith
ends_within input place (inr end) =
    let all : feeds_in (take place input.bytes) ≡ feeds_in input.bytes = ap feeds_in (take_all place input.bytes (omega (arith, end.1))) in
    let some : feeds_in input.bytes < length (lines_of input.bytes) = end.2 in
    omega arith
